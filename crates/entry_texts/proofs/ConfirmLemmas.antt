-- The text of a Confirm, piece by piece, and that it is read as what was written.
use Rattle.std.proofs.Common.{
  ◌≡◌,
  ◌<◌,
  ◌≤◌,
  ℕ,
  List,
  [],
  ◌∷◌,
  ◌++◌,
  codes,
  decimal,
  Option,
  Some,
  option_and_then,
  append-nil,
  append_assoc,
  refl,
  sym,
  ap,
  ap₂,
  ◌∙◌,
  arith,
}
use Rattle.json.specs.Lex.{tokens}
use Rattle.json.specs.Print.{escape_byte, IsNumber, ArePrintable}
use Rattle.json.specs.Token.{Token}
use Rattle.json.specs.Json as json
use Rattle.json.specs.Tree.{depth, json_tokens}
use Rattle.json.proofs.Printed.Decimals.{IsNumber-decimal}
use Rattle.json.proofs.Printed.Tokens.{tokens-print}
use Rattle.json.proofs.Printed.Trees.{value-json_tokens}
use Rattle.serde_json.specs.Data.{Data, unsigned, number, string, object, member, no_members}
use Rattle.serde_json.specs.Read.{read, number_of, of_json, max_depth}
use Rattle.serde_json.specs.Written.{outline, compact_text}
use Rattle.serde_json.proofs.Numbers.{number_of-decimal}
use Rattle.serde_json.proofs.Texts.{print-outline}
use Rattle.table_terms.specs.declared.place.Place.{Place}
use Rattle.table_terms.specs.declared.place.Place.TheVariants.{North, East, South, West}
use Rattle.table_terms.specs.declared.strain.Strain.{Strain}
use Rattle.table_terms.specs.declared.strain.Strain.TheVariants.{Clubs, Diamonds, Hearts, Spades, NoTrump}
use Rattle.table_terms.specs.Place.{place_letter}
use Rattle.table_terms.specs.Strain.{strain_letter}
use Rattle.movement.specs.declared.cell.Cell.{Cell}
use Rattle.scoring.specs.declared.doubling.Doubling.{Doubling}
use Rattle.scoring.specs.declared.doubling.Doubling.TheVariants.{Undoubled, Doubled, Redoubled}
use Rattle.scoring.specs.declared.outcome.Outcome.{Outcome}
use Rattle.scoring.specs.declared.outcome.Outcome.TheVariants.{PassedOut, Played}
use Rattle.scoring.specs.Doubling.{times_doubled}
use Rattle.session_commands.specs.declared.command.Command.TheVariants.{Confirm}
use Rattle.command_writing.specs.CommandData.{command_data}
use Rattle.command_writing.specs.Writable.{IsWritable}
use Rattle.entry_texts.specs.EntryTexts.{command_text}

-- how a board ended that was played
abbrev pub result_data : ℕ → ℕ → ℕ → ℕ → ℕ → Data
result_data by doubled level x won =
    object
    (member (codes "by") (string (by ∷ []))
    (member (codes "doubled") (number (unsigned doubled))
    (member (codes "level") (number (unsigned level))
    (member (codes "strain") (string (x ∷ [])) (member (codes "tricks") (number (unsigned won)) no_members)))))

-- what is written of a Confirm that ended so
abbrev pub ended_data : ℕ → ℕ → Data → Data
ended_data board table result =
    object
    (member (codes "board") (number (unsigned board))
    (member (codes "cmd") (string (codes "Confirm"))
    (member (codes "result") result (member (codes "table") (number (unsigned table)) no_members))))

abbrev pub passed_data : ℕ → ℕ → Data
passed_data board table = ended_data board table (string (codes "pass"))

abbrev pub played_data : ℕ → ℕ → ℕ → ℕ → ℕ → ℕ → ℕ → Data
played_data board table by doubled level x won = ended_data board table (result_data by doubled level x won)

-- ---- the pieces

pub passed_pieces : (board table : ℕ) → codes "{\"board\":" ++ (decimal board
    ++ (codes ",\"cmd\":\"Confirm\",\"result\":\"pass\",\"table\":" ++ (decimal table ++ codes "}")))
    ≡ compact_text (passed_data board table)
unfolding escape_byte
passed_pieces board table = refl

pub ended_pieces : (board table : ℕ) (result : Data) → codes "{\"board\":" ++ (decimal board
    ++ (codes ",\"cmd\":\"Confirm\",\"result\":" ++ (compact_text result ++ (codes ",\"table\":" ++ (decimal table ++ codes "}")))))
    ≡ compact_text (ended_data board table result)
unfolding escape_byte
ended_pieces board table result = refl

-- the pieces of a result, where this stands for who declares, and this for the strain, each with the quotation mark behind it
abbrev result_pieces : ℕ → ℕ → ℕ → List ℕ → List ℕ → List ℕ
result_pieces doubled level won by x =
    codes "{\"by\":\"" ++ (by ++ (codes ",\"doubled\":" ++ (decimal doubled ++ (codes ",\"level\":" ++ (decimal level
    ++ (codes ",\"strain\":\"" ++ (x ++ (codes ",\"tricks\":" ++ (decimal won ++ codes "}")))))))))

result_escaped : (by doubled level x won : ℕ) →
    result_pieces doubled level won ((escape_byte by ++ []) ++ 34 ∷ []) ((escape_byte x ++ []) ++ 34 ∷ [])
    ≡ compact_text (result_data by doubled level x won)
unfolding escape_byte
result_escaped by doubled level x won = refl

plain_place : (by : Place) → place_letter by ∷ [] ≡ escape_byte (place_letter by)
unfolding escape_byte
plain_place North = refl
plain_place East = refl
plain_place South = refl
plain_place West = refl

plain_strain : (x : Strain) → strain_letter x ∷ [] ≡ escape_byte (strain_letter x)
unfolding escape_byte
plain_strain Clubs = refl
plain_strain Diamonds = refl
plain_strain Hearts = refl
plain_strain Spades = refl
plain_strain NoTrump = refl

result_plain : (doubled level won : ℕ) (by : Place) (x : Strain) →
    result_pieces doubled level won (place_letter by ∷ 34 ∷ []) (strain_letter x ∷ 34 ∷ [])
    ≡ compact_text (result_data (place_letter by) doubled level (strain_letter x) won)
result_plain doubled level won by x =
    ap₂ (λ p s. result_pieces doubled level won ((p ++ []) ++ 34 ∷ []) ((s ++ []) ++ 34 ∷ [])) (plain_place by) (plain_strain x)
    ∙ result_escaped (place_letter by) doubled level (strain_letter x) won

-- the pieces as they are written, in three times
abbrev pub first_piece : Place → ℕ → List ℕ
first_piece by doubled =
    codes "{\"by\":\"" ++ (place_letter by ∷ [] ++ (codes "\",\"doubled\":" ++ (decimal doubled ++ codes ",\"level\":")))

abbrev pub second_piece : ℕ → Strain → List ℕ
second_piece level x = decimal level ++ (codes ",\"strain\":\"" ++ (strain_letter x ∷ [] ++ codes "\",\"tricks\":"))

abbrev pub third_piece : ℕ → List ℕ
third_piece won = decimal won ++ codes "}"

in_a_row : (first level : List ℕ) (x : ℕ) (won doubled : List ℕ) →
    ((codes "{\"by\":\"" ++ (first ++ (codes "\",\"doubled\":" ++ (doubled ++ codes ",\"level\":"))))
    ++ (level ++ (codes ",\"strain\":\"" ++ (x ∷ [] ++ codes "\",\"tricks\":"))))
    ++ (won ++ codes "}")
    ≡ codes "{\"by\":\"" ++ (first ++ (codes "\",\"doubled\":" ++ (doubled ++ (codes ",\"level\":" ++ (level
    ++ (codes ",\"strain\":\"" ++ (x ∷ [] ++ (codes "\",\"tricks\":" ++ (won ++ codes "}")))))))))
in_a_row first level x won doubled = simp append_assoc

pub result_parts : (doubled level won : ℕ) (by : Place) (x : Strain) →
    (first_piece by doubled ++ second_piece level x) ++ third_piece won
    ≡ compact_text (result_data (place_letter by) doubled level (strain_letter x) won)
result_parts doubled level won by x =
    in_a_row (place_letter by ∷ []) (decimal level) (strain_letter x) (decimal won) (decimal doubled) ∙ result_plain doubled level won by x

-- what stands around a result
abbrev pub around : ℕ → ℕ → List ℕ → List ℕ
around board table result =
    codes "{\"board\":" ++ (decimal board
    ++ (codes ",\"cmd\":\"Confirm\",\"result\":" ++ (result ++ (codes ",\"table\":" ++ (decimal table ++ codes "}")))))

-- ---- what is read of them

abbrev whole : Option (json.Json × List Token) → Option Data
whole o = option_and_then of_json (option_and_then (λ p. json.if_last p.0 p.1) o)

read_plain : (it : Data) → of_json (outline it) ≡ Some it → depth (outline it) ≤ max_depth → ArePrintable (json_tokens (outline it)) →
    read (compact_text it) ≡ Some it
read_plain it back shallow printable =
    let lexed = ap tokens (sym (print-outline it)) ∙ tokens-print (json_tokens (outline it)) printable in
    ap whole (ap (json.value max_depth) (lexed ∙ sym (append-nil _)) ∙ value-json_tokens (outline it) max_depth [] shallow) ∙ back

number_read : (n : ℕ) → n < 256 → number_of (decimal n) ≡ Some (unsigned n)
number_read n below = number_of-decimal n (omega (arith, below))

is_number : (n : ℕ) → n < 256 → IsNumber (decimal n)
is_number n small = IsNumber-decimal n (omega (arith, small))

passed_json : (board table : ℕ) → board < 256 → table < 256 →
    of_json (outline (passed_data board table)) ≡ Some (passed_data board table)
passed_json board table small few = rw (number_read board small) (rw (number_read table few) refl)

passed_printable : (board table : ℕ) → board < 256 → table < 256 → ArePrintable (json_tokens (outline (passed_data board table)))
unfolding ArePrintable
passed_printable board table small few =
    (tt, (tt, (is_number board small, (tt, (tt, (tt, (tt, (tt, (is_number table few, (tt, tt))))))))))

passed_read : (board table : ℕ) → board < 256 → table < 256 →
    read (compact_text (passed_data board table)) ≡ Some (passed_data board table)
passed_read board table small few =
    read_plain (passed_data board table) (passed_json board table small few) (omega arith)
    (passed_printable board table small few)

-- all numbers of a board that was played
record AreSmall (board table doubled level won : ℕ) : Type 0 where
  of_board : board < 256
  of_table : table < 256
  of_doubled : doubled < 256
  of_level : level < 256
  of_won : won < 256

played_json : (board table by doubled level x won : ℕ) → AreSmall board table doubled level won →
    of_json (outline (played_data board table by doubled level x won)) ≡ Some (played_data board table by doubled level x won)
played_json board table by doubled level x won small =
    rw (number_read board small.of_board) (rw (number_read doubled small.of_doubled) (rw (number_read level small.of_level)
    (rw (number_read won small.of_won) (rw (number_read table small.of_table) refl))))

played_printable : (board table by doubled level x won : ℕ) → AreSmall board table doubled level won →
    ArePrintable (json_tokens (outline (played_data board table by doubled level x won)))
unfolding ArePrintable
played_printable board table by doubled level x won small =
    (tt, (tt, (is_number board small.of_board, (tt, (tt, (tt, (tt, (tt, (tt, (tt, (is_number doubled small.of_doubled, (tt, (is_number level small.of_level, (tt, (tt, (tt, (is_number won small.of_won, (tt, (tt, (is_number table small.of_table, (tt, tt)))))))))))))))))))))

played_read : (board table by doubled level x won : ℕ) → AreSmall board table doubled level won →
    read (compact_text (played_data board table by doubled level x won)) ≡ Some (played_data board table by doubled level x won)
played_read board table by doubled level x won small =
    read_plain (played_data board table by doubled level x won) (played_json board table by doubled level x won small) (omega arith)
    (played_printable board table by doubled level x won small)

times_small : (doubling : Doubling) → times_doubled doubling < 256
times_small Undoubled = omega arith
times_small Doubled = omega arith
times_small Redoubled = omega arith

pub confirm_read : (cell : Cell) (outcome : Outcome) → IsWritable (Confirm cell outcome) →
    read (command_text (Confirm cell outcome)) ≡ Some (command_data (Confirm cell outcome))
confirm_read cell PassedOut is = passed_read cell.board cell.table is.1.0 is.0
confirm_read cell (Played contract won) is =
    played_read cell.board cell.table (place_letter contract.declarer) (times_doubled contract.doubling) contract.level
    (strain_letter contract.strain) won
    (record {
      of_board = is.1.0;
      of_table = is.0;
      of_doubled = times_small contract.doubling;
      of_level = let most = is.1.1.0.0.1 in omega (arith, most);
      of_won = let most = is.1.1.0.1 in omega (arith, most);
    })
