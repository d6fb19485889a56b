-- How a board ended, as a message has it: `"pass"`, or an object of five members.
use Rattle.std.specs.Prelude.{
  ◌≡◌,
  ◌⊎◌,
  ℕ,
  ◌≤◌,
  List,
  [],
  ◌&&◌,
  nat_le,
  if◌then◌else◌,
  codes,
  Option,
  Some,
  None,
  option_and_then,
}
use Rattle.std.specs.Str.{bytes_eq}
use Rattle.serde_json.specs.Data.{Data}
use Rattle.serde_json.specs.Find.{as_str}
use Rattle.scoring.specs.declared.doubling.Doubling.{Doubling}
use Rattle.scoring.specs.declared.outcome.Outcome.{Outcome}
use Rattle.scoring.specs.declared.outcome.Outcome.TheVariants.{PassedOut, Played}
use Rattle.scoring.specs.Doubling.{times_doubled}
use Rattle.json_fields.specs.Doubling.{doubling_numbered}
use Rattle.json_fields.specs.Form.{Member, Form, form, ◌with◌, formed, HasForm}
use Rattle.json_fields.specs.Field.{number, small}
use Rattle.json_fields.specs.Message.{declarer, strain}

-- how often the contract was doubled
abbrev pub doubled : Member Doubling
doubled = record {
  name = codes "doubled";
  value = λ o. option_and_then doubling_numbered (small o);
  Is = λ o x. number o ≡ Some (times_doubled x);
}

-- a level is 1 to 7
abbrev pub level_numbered : ℕ → Option ℕ
level_numbered n = if nat_le 1 n && nat_le n 7 then Some n else None

-- what stands there is this level
pub record IsLevel (o : Option Data) (n : ℕ) : Type 0 where
  pub is : number o ≡ Some n
  pub least : 1 ≤ n
  pub most : n ≤ 7

-- the level of the contract
abbrev pub level : Member ℕ
level = record { name = codes "level"; value = λ o. option_and_then level_numbered (small o); Is = IsLevel }

-- tricks are 0 to 13
abbrev pub tricks_numbered : ℕ → Option ℕ
tricks_numbered n = if nat_le n 13 then Some n else None

-- what stands there is this number of tricks
pub record IsTricks (o : Option Data) (n : ℕ) : Type 0 where
  pub is : number o ≡ Some n
  pub most : n ≤ 13

-- how many tricks declarer's side won
abbrev pub tricks_won : Member ℕ
tricks_won = record { name = codes "tricks"; value = λ o. option_and_then tricks_numbered (small o); Is = IsTricks }

-- a contract that was played; it has no word
abbrev pub played_contract : Form Outcome
played_contract =
    form [] (λ by doubling n x won. Played (record { level = n; strain = x; declarer = by; doubling = doubling }) won)
    with declarer with doubled with level with strain with tricks_won

-- the text `pass`, or a contract that was played
abbrev pub text_or_played : Option (List ℕ) → Data → Option Outcome
text_or_played (Some word) d = if bytes_eq word (codes "pass") then Some PassedOut else None
text_or_played None d = formed [] played_contract d

-- something has to stand there
unfoldable pub outcome_by : Option Data → Option Outcome
outcome_by None = None
outcome_by (Some d) = text_or_played (as_str d) d

-- the text `pass`, or an object that says what was played
abbrev pub IsOutcome : Option Data → Outcome → Type 0
IsOutcome None ended = ⊥
IsOutcome (Some d) ended =
    ((as_str d ≡ Some (codes "pass")) × (ended ≡ PassedOut)) ⊎ ((as_str d ≡ None) × HasForm [] played_contract d ended)

-- how the board ended
abbrev pub outcome : Member Outcome
outcome = record { name = codes "result"; value = outcome_by; Is = IsOutcome }
