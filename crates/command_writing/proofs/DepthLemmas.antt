-- What is written of a command nests three deep at most, and has no number with a point.
use Rattle.std.proofs.Common.{
  ◌≡◌,
  ◌≤◌,
  ℕ,
  Bool,
  true,
  false,
  ◌||◌,
  List,
  [],
  ◌∷◌,
  map,
  codes,
  Ordering,
  Less,
  Equal,
  Greater,
  nat_cmp,
  refl,
  arith,
}
use Rattle.std.specs.Cmp.Lexicographic.{slice_cmp}
use Rattle.std.specs.Ordering.{match_ordering}
use Rattle.serde_json.specs.Data.{
  Data,
  string,
  Members,
  no_members,
  member,
  put,
  depth,
  items_depth,
  members_depth,
}
use Rattle.serde_json.specs.View.{items_of}
use Rattle.serde_json.specs.Written.{has_float, items_have_float, members_have_float}
use Rattle.cards.specs.declared.card.Card.{Card}
use Rattle.cards.specs.Card.{card_text}
use Rattle.scoring.specs.declared.outcome.Outcome.{Outcome}
use Rattle.scoring.specs.declared.outcome.Outcome.TheVariants.{PassedOut, Played}
use Rattle.solver_results.specs.declared.play_answer.PlayAnswer.{PlayAnswer}
use Rattle.solver_results.specs.declared.play_answer.PlayAnswer.TheVariants.{Costs, NotAPlay}
use Rattle.solver_results.specs.PlayAnswer.{answer_for_play}
use Rattle.session_commands.specs.declared.command.Command.{Command}
use Rattle.session_commands.specs.Row.{word_text}
use Rattle.session_commands.specs.Told.{word_of}
use Rattle.command_writing.specs.NumberData.{written_number}
use Rattle.command_writing.specs.ResultData.{written_outcome, written_play}
use Rattle.command_writing.specs.FoundData.{written_answer}
use Rattle.command_writing.specs.CommandPart.{Kind, written_kind, CommandPart, part_name, part_data, with_parts}
use Rattle.command_writing.specs.CommandPart as kinds
use Rattle.command_writing.specs.CommandData.{command_parts, command_data}

-- ---- how deep it nests

texts_depth : (cards : List Card) → items_depth (items_of (map (λ card. string (card_text card)) cards)) ≡ 0
texts_depth [] = refl
texts_depth (card ∷ cards) = omega (arith, texts_depth cards)

numbers_depth : (numbers : List ℕ) → items_depth (items_of (map written_number numbers)) ≡ 0
numbers_depth [] = refl
numbers_depth (number ∷ numbers) = omega (arith, numbers_depth numbers)

outcome_depth : (outcome : Outcome) → depth (written_outcome outcome) ≤ 1
outcome_depth PassedOut = omega arith
outcome_depth (Played contract won) = omega arith

play_depth : (play : List Card) → depth (written_play play) ≤ 1
play_depth play = omega (arith, texts_depth play)

answer_depth : (answer : PlayAnswer) → depth (written_answer answer) ≤ 1
answer_depth (Costs costs) = omega (arith, numbers_depth costs)
answer_depth (NotAPlay number) = omega arith

kind_depth : (kind : Kind) (x : (written_kind kind).Value) → depth ((written_kind kind).write x) ≤ 2
kind_depth kinds.Result outcome = omega (arith, outcome_depth outcome)
kind_depth kinds.Play play = omega (arith, play_depth play)
kind_depth kinds.Costs costs = omega (arith, answer_depth (answer_for_play costs))
kind_depth _ x = omega arith

-- a member among others
put_depth_by : (order : Ordering) (name other : List ℕ) (d e : Data) (rest : Members) (most : ℕ) → depth d ≤ most
    → depth e ≤ most → members_depth rest ≤ most → members_depth (put name d rest) ≤ most
    → members_depth (match_ordering order (member name d (member other e rest)) (member other d rest)
    (member other e (put name d rest))) ≤ most
put_depth_by Less name other d e rest most here there below later = omega arith
put_depth_by Equal name other d e rest most here there below later = omega arith
put_depth_by Greater name other d e rest most here there below later = omega arith

put_depth : (name : List ℕ) (d : Data) (rest : Members) (most : ℕ) → depth d ≤ most → members_depth rest ≤ most
    → members_depth (put name d rest) ≤ most
put_depth name d no_members most here below = omega arith
put_depth name d (member other e rest) most here below =
    put_depth_by (slice_cmp nat_cmp name other) name other d e rest most here (omega arith) (omega arith)
    (put_depth name d rest most here (omega arith))

parts_depth : (parts : List CommandPart) (rest : Members) → members_depth rest ≤ 2
    → members_depth (with_parts parts rest) ≤ 2
parts_depth [] rest below = below
parts_depth (part ∷ parts) rest below =
    put_depth (part_name part) (part_data part) (with_parts parts rest) 2 (kind_depth part.kind part.value)
    (parts_depth parts rest below)

pub command_depth : (command : Command) → depth (command_data command) ≤ 3
command_depth command =
    omega (
      arith,
      parts_depth (command_parts command)
          (member (codes "cmd") (string (word_text (word_of command))) no_members) (omega arith),
    )

-- ---- its numbers are whole

texts_whole : (cards : List Card) → items_have_float (items_of (map (λ card. string (card_text card)) cards)) ≡ false
texts_whole [] = refl
texts_whole (card ∷ cards) = texts_whole cards

numbers_whole : (numbers : List ℕ) → items_have_float (items_of (map written_number numbers)) ≡ false
numbers_whole [] = refl
numbers_whole (number ∷ numbers) = numbers_whole numbers

outcome_whole : (outcome : Outcome) → has_float (written_outcome outcome) ≡ false
outcome_whole PassedOut = refl
outcome_whole (Played contract won) = refl

answer_whole : (answer : PlayAnswer) → has_float (written_answer answer) ≡ false
answer_whole (Costs costs) = numbers_whole costs
answer_whole (NotAPlay number) = refl

kind_whole : (kind : Kind) (x : (written_kind kind).Value) → has_float ((written_kind kind).write x) ≡ false
kind_whole kinds.Result outcome = outcome_whole outcome
kind_whole kinds.Play play = texts_whole play
kind_whole kinds.Costs costs = answer_whole (answer_for_play costs)
kind_whole _ x = refl

neither : (a b : Bool) → a ≡ false → b ≡ false → (a || b) ≡ false
neither a b one other = rw (one, other) refl

first_whole : (a b : Bool) → (a || b) ≡ false → a ≡ false
first_whole true b whole = absurd (cc)
first_whole false b whole = refl

rest_whole : (a b : Bool) → (a || b) ≡ false → b ≡ false
rest_whole true b whole = absurd (cc)
rest_whole false b whole = whole

-- a member among others
put_whole_by : (order : Ordering) (name other : List ℕ) (d e : Data) (rest : Members) → has_float d ≡ false
    → has_float e ≡ false → members_have_float rest ≡ false → members_have_float (put name d rest) ≡ false
    → members_have_float (match_ordering order (member name d (member other e rest)) (member other d rest)
    (member other e (put name d rest))) ≡ false
put_whole_by Less name other d e rest here there others later = neither _ _ here (neither _ _ there others)
put_whole_by Equal name other d e rest here there others later = neither _ _ here others
put_whole_by Greater name other d e rest here there others later = neither _ _ there later

put_whole : (name : List ℕ) (d : Data) (rest : Members) → has_float d ≡ false → members_have_float rest ≡ false
    → members_have_float (put name d rest) ≡ false
put_whole name d no_members here others = neither _ _ here refl
put_whole name d (member other e rest) here others =
    let later = rest_whole (has_float e) (members_have_float rest) others in
    put_whole_by (slice_cmp nat_cmp name other) name other d e rest here
    (first_whole (has_float e) (members_have_float rest) others) later (put_whole name d rest here later)

parts_whole : (parts : List CommandPart) (rest : Members) → members_have_float rest ≡ false
    → members_have_float (with_parts parts rest) ≡ false
parts_whole [] rest others = others
parts_whole (part ∷ parts) rest others =
    put_whole (part_name part) (part_data part) (with_parts parts rest) (kind_whole part.kind part.value)
    (parts_whole parts rest others)

pub command_whole : (command : Command) → has_float (command_data command) ≡ false
command_whole command = parts_whole (command_parts command) _ refl
