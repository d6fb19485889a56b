-- What is written of a command that a client can send is read as that command.
use Rattle.std.proofs.Common.{
  ◌≡◌,
  inl,
  inr,
  ℕ,
  ◌<◌,
  ◌≤◌,
  Bool,
  true,
  false,
  ◌&&◌,
  nat_lt,
  nat_le,
  List,
  [],
  ◌∷◌,
  length,
  map,
  Option,
  Some,
  None,
  refl,
  sym,
  ap,
  ◌∙◌,
  arith,
}
use Rattle.std.proofs.lemmas.Bool.Decides.{nat_tests}
use Rattle.user_names.specs.declared.name.TheConstants.Name.{MOST}
use Rattle.hex.proofs.HexLemmas.{decode_sized-encode_lower}
use Rattle.serde_json.specs.Data.{Data, string}
use Rattle.serde_json.specs.Find.{get}
use Rattle.serde_json.specs.View.{items_of}
use Rattle.table_terms.specs.declared.pair.Pair.{Pair}
use Rattle.table_terms.specs.declared.place.Place.{Place}
use Rattle.table_terms.specs.declared.strain.Strain.{Strain}
use Rattle.table_terms.specs.Pair.{pair_text}
use Rattle.cards.specs.declared.card.Card.{Card}
use Rattle.cards.specs.Card.{card_text}
use Rattle.cards.specs.Hands.{IsDeal}
use Rattle.movement.specs.declared.cell.Cell.{Cell}
use Rattle.scoring.specs.declared.doubling.Doubling.{Doubling}
use Rattle.scoring.specs.declared.outcome.Outcome.{Outcome}
use Rattle.scoring.specs.declared.outcome.Outcome.TheVariants.{PassedOut, Played}
use Rattle.session_commands.specs.declared.command.Command.{Command}
use Rattle.session_commands.specs.declared.command.Command.TheVariants as command
use Rattle.session_roles.specs.declared.edition.Edition.TheVariants.{Second}
use Rattle.session_roles.specs.declared.role.Role.{Role}
use Rattle.session_roles.specs.declared.role.Role.TheVariants as roles
use Rattle.session_roles.specs.Role.{role_name, is_role_of}
use Rattle.solver_results.specs.PlayAnswer.{PlayedDeal}
use Rattle.json_fields.specs.Form.{Member, applied, AreEach}
use Rattle.json_fields.specs.Field.{below_256}
use Rattle.json_fields.specs.Message.{table, board}
use Rattle.json_fields.specs.User.{user_name, new_shown, digest, pair, place, role_named}
use Rattle.json_fields.proofs.LetterLemmas.{place_found}
use Rattle.json_fields.proofs.UserLemmas.{pair_agrees, role_reads}
use Rattle.command_object.specs.Command.{north_south, east_west, reason, role, senior, junior, command_of}
use Rattle.command_object.specs.Result as result
use Rattle.command_object.specs.Play as cards
use Rattle.command_object.specs.Play.{IsCard}
use Rattle.command_object.proofs.MemberLemmas.{outcome_agrees, play_agrees}
use Rattle.command_writing.specs.ResultData.{written_outcome, written_play}
use Rattle.command_writing.specs.Values.{IsWritableCell, IsName, IsContract, IsWritableOutcome, IsWritablePlay}
use Rattle.command_writing.specs.CommandPart.{Kind, WrittenKind, written_kind, CommandPart, part_data, AreThere}
use Rattle.command_writing.specs.CommandPart as kinds
use Rattle.command_writing.specs.CommandData.{command_parts, command_data}
use Rattle.command_writing.specs.Writable.{IsWritable, IsSendable}

-- ---- the members

small : (n : ℕ) → n < 256 → nat_lt n 256 ≡ true
small n below = grind (arith, nat_tests)

small_back : (n : ℕ) → n < 256 → below_256 (Some n) ≡ Some n
small_back n below = rw (small n below) refl

short : (name : List ℕ) → IsName name → nat_le (length name) MOST ≡ true
short name few = grind (arith, nat_tests)

pair_reads : (its : Pair) → 1 ≤ its.number → its.number < 256 → pair.value (Some (string (pair_text its))) ≡ Some its
pair_reads its least below =
    pair_agrees.reads (Some (string (pair_text its))) its
    (record { is = refl; least = least; most = omega (arith, below) })

-- the second edition knows each role
known : (role : Role) → is_role_of Second role ≡ true
known roles.Member = refl
known roles.Spectator = refl
known roles.Contestant = refl
known roles.Scorer = refl
known roles.Director = refl
known roles.Administrator = refl
known roles.Commentator = refl

role_back : (role : Role) → role_named Second (role_name role) ≡ Some role
role_back role = role_reads Second (Some (role_name role)) role (record { is = refl; known = known role })

cards_are : (played : List Card) → AreEach IsCard (items_of (map (λ card. string (card_text card)) played)) played
cards_are [] = tt
cards_are (card ∷ played) = (refl, cards_are played)

pub play_is : (played : List Card) → IsWritablePlay played → cards.IsPlay (Some (written_play played)) played
play_is played few = (items_of (map (λ card. string (card_text card)) played), refl, cards_are played, few)

play_reads : (played : List Card) → IsWritablePlay played → cards.play_by (Some (written_play played)) ≡ Some played
play_reads played few = play_agrees.reads (Some (written_play played)) played (play_is played few)

-- a contract of these four parts, with so many tricks
abbrev ended : Place → Doubling → ℕ → Strain → ℕ → Outcome
ended by doubling level x won = Played (record { level = level; strain = x; declarer = by; doubling = doubling }) won

outcome_is : (outcome : Outcome) → IsWritableOutcome outcome → result.IsOutcome (Some (written_outcome outcome)) outcome
outcome_is PassedOut real = inl (refl, refl)
outcome_is (Played contract won) real = inr (
  refl,
  record {
    listed = refl;
    made = (
      ended contract.declarer contract.doubling contract.level contract.strain,
      won,
      (
        ended contract.declarer contract.doubling contract.level,
        contract.strain,
        (
          ended contract.declarer contract.doubling,
          contract.level,
          (
            ended contract.declarer,
            contract.doubling,
            (ended, contract.declarer, refl, refl, refl),
            refl,
            refl,
          ),
          record { is = refl; least = real.0.0; most = real.0.1 },
          refl,
        ),
        refl,
        refl,
      ),
      record { is = refl; most = real.1 },
      refl,
    );
  },
)

outcome_reads : (outcome : Outcome) → IsWritableOutcome outcome → result.outcome_by (Some (written_outcome outcome)) ≡ Some outcome
outcome_reads outcome real = outcome_agrees.reads (Some (written_outcome outcome)) outcome (outcome_is outcome real)

-- ---- a member of a kind is read as what was written

-- where the solver's members are read, no command has a member
abbrev unread : (its : WrittenKind) → Member its.Value
unread its = record { name = its.name; value = λ o. None; Is = λ o x. ⊥ }

-- where a member of a kind is read
abbrev member_of : (kind : Kind) → Member (written_kind kind).Value
member_of kinds.Table = table
member_of kinds.Board = board
member_of kinds.Result = result.outcome
member_of kinds.Play = cards.play
member_of kinds.NorthSouth = north_south
member_of kinds.EastWest = east_west
member_of kinds.Reason = reason
member_of kinds.Name = user_name
member_of kinds.Pair = pair
member_of kinds.Place = place
member_of kinds.Digest = digest
member_of kinds.Role = role Second
member_of kinds.Senior = senior Second
member_of kinds.Junior = junior Second
member_of kinds.Shown = new_shown
member_of kind = unread (written_kind kind)

-- what is written of the part is read as its value
abbrev IsRead : CommandPart → Type 0
IsRead part = (member_of part.kind).value (Some (part_data part)) ≡ Some part.value

abbrev AreRead : List CommandPart → Type 0
AreRead [] = Unit {0}
AreRead (part ∷ parts) = IsRead part × AreRead parts

-- a kind of which each value is read again: a pair's number may be 0, and the solver's are not for clients
abbrev is_plain : Kind → Bool
is_plain kinds.Pair = false
is_plain kinds.Deal = false
is_plain kinds.Tricks = false
is_plain kinds.Contract = false
is_plain kinds.Costs = false
is_plain _ = true

kind_reads : (kind : Kind) (x : (written_kind kind).Value) → is_plain kind ≡ true → (written_kind kind).Is x
    → (member_of kind).value (Some ((written_kind kind).write x)) ≡ Some x
kind_reads kinds.Table number plain is = small_back number is
kind_reads kinds.Board number plain is = small_back number is
kind_reads kinds.Result ended plain is = outcome_reads ended is
kind_reads kinds.Play played plain is = play_reads played is
kind_reads kinds.NorthSouth number plain is = small_back number is
kind_reads kinds.EastWest number plain is = small_back number is
kind_reads kinds.Reason number plain is = small_back number is
kind_reads kinds.Name name plain is = rw (short name is) refl
kind_reads kinds.Place at plain is = sym (place_found at)
kind_reads kinds.Digest its plain is = rw (decode_sized-encode_lower its.bytes 32 is.0 is.1) refl
kind_reads kinds.Role its plain is = role_back its
kind_reads kinds.Senior its plain is = role_back its
kind_reads kinds.Junior its plain is = role_back its
kind_reads kinds.Shown shown plain is = rw is refl
kind_reads kind x plain is = absurd (cc)

abbrev are_plain : List CommandPart → Bool
are_plain [] = true
are_plain (part ∷ parts) = is_plain part.kind && are_plain parts

both : (a b : Bool) → (a && b) ≡ true → (a ≡ true) × (b ≡ true)
both true b h = (refl, h)
both false b h = absurd (cc)

are_read : (parts : List CommandPart) → are_plain parts ≡ true → AreThere parts → AreRead parts
are_read [] plain are = tt
are_read (part ∷ parts) plain are =
    let each = both (is_plain part.kind) (are_plain parts) plain in
    (kind_reads part.kind part.value each.0 are.0, are_read parts each.1 are.1)

-- ---- a form's members, one after another

-- what takes a value of each part
abbrev Takes : List CommandPart → Type 0 → Type 0
Takes [] A = A
Takes (part ∷ parts) A = (written_kind part.kind).Value → Takes parts A

abbrev given : {A : Type 0} (parts : List CommandPart) → Takes parts A → A
given [] x = x
given (part ∷ parts) make = given parts (make part.value)

-- what a form reads that has a member for each part
abbrev read_in : {A : Type 0} (parts : List CommandPart) → Data → Option (Takes parts A) → Option A
read_in [] d made = made
read_in (part ∷ parts) d made =
    read_in parts d (applied made ((member_of part.kind).value (get (member_of part.kind).name d)))

-- what stands where each part is read, and what is written of each
abbrev standing : Data → List CommandPart → List (Option Data)
standing d [] = []
standing d (part ∷ parts) = get (member_of part.kind).name d ∷ standing d parts

abbrev told : List CommandPart → List (Option Data)
told [] = []
told (part ∷ parts) = Some (part_data part) ∷ told parts

same_first : {A : Type 0} (x y : A) (xs ys : List A) → x ∷ xs ≡ y ∷ ys → x ≡ y
same_first x y xs ys same = cc

same_rest : {A : Type 0} (x y : A) (xs ys : List A) → x ∷ xs ≡ y ∷ ys → xs ≡ ys
same_rest x y xs ys same = cc

parts_read : {A : Type 0} (parts : List CommandPart) (d : Data) (make : Takes parts A) → standing d parts ≡ told parts
    → AreRead parts → read_in parts d (Some make) ≡ Some (given parts make)
parts_read [] d make stands are = refl
parts_read (part ∷ parts) d make stands are =
    ap (λ o. read_in parts d (applied (Some make) ((member_of part.kind).value o))) (same_first _ _ _ _ stands)
    ∙ ap (λ o. read_in parts d (applied (Some make) o)) are.0
    ∙ parts_read parts d (make part.value) (same_rest _ _ _ _ stands) are.1

-- ---- what the solver tells

-- which values there are of a play that was analysed
pub record IsAnalysable (cell : Cell) (played : PlayedDeal) : Type 0 where
  pub at : IsWritableCell cell
  pub deal : IsDeal played.deal
  pub contract : IsContract played.contract
  pub cards : IsWritablePlay played.play

pub analysed_is : (cell : Cell) (played : PlayedDeal) → IsWritable (command.Analysed cell played)
    → IsAnalysable cell played
analysed_is cell played (table, (board, (deal, (contract, (cards, rest))))) =
    record { at = (table, board); deal = deal; contract = contract; cards = cards }

-- ---- each command that a client can send

pub read_back : (c : Command) → IsWritable c → IsSendable c → command_of Second (command_data c) ≡ Some c
unfolding command_of
read_back (command.Seat name its at) is sent =
    parts_read (command_parts (command.Seat name its at)) (command_data (command.Seat name its at)) command.Seat refl
    (rw (short name is.0) refl, (pair_reads its sent is.1.0, (sym (place_found at), tt)))
read_back (command.Solved number deal) is sent = absurd sent
read_back (command.Analysed at played) is sent = absurd sent
read_back c is sent = parts_read (command_parts c) (command_data c) _ refl (are_read (command_parts c) refl is)
