-- When a filter holds of a board: a reading of what was handed in of the board, and of nothing else.
use Rattle.std.specs.Prelude.{ℕ, ℤ, Bool, true, false, not, nat_le, ◌==◌, ◌&&◌, ◌||◌, Option, Some, None}
use Rattle.std.specs.Bool.{beq}
use Rattle.std.specs.List.{list_any}
use Rattle.std.specs.Str.{bytes_eq}
use Rattle.table_terms.specs.declared.place.Place.{Place}
use Rattle.table_terms.specs.declared.strain.Strain.{Strain}
use Rattle.table_terms.specs.declared.vulnerability.Vulnerability.{Vulnerability}
use Rattle.table_terms.specs.Place.{place_letter}
use Rattle.table_terms.specs.Strain.{strain_letter}
use Rattle.table_terms.specs.Vulnerability.{vulnerability_text}
use Rattle.scoring.specs.declared.contract.Contract.{Contract}
use Rattle.scoring.specs.declared.outcome.Outcome.{Outcome}
use Rattle.scoring.specs.declared.outcome.Outcome.TheVariants.{PassedOut, Played}
use Rattle.scoring.specs.Doubling.{times_doubled}
use Rattle.scoring.specs.Law77.{tricks_needed, ns_score_of}
use Rattle.query_filter.specs.declared.atom.Atom.{Atom}
use Rattle.query_filter.specs.declared.atom.Atom.TheVariants as atom
use Rattle.query_filter.specs.declared.board_facts.BoardFacts.{BoardFacts}
use Rattle.query_filter.specs.declared.bounds.Bounds.{Bounds}
use Rattle.query_filter.specs.declared.trick_table.TrickTable.{TrickTable}
use Rattle.query_filter.specs.Bounds.{is_between, is_score_between}
use Rattle.query_filter.specs.Formula.{Formula, Is, Not, And, Or, Formulas, no_formula, formula_then}
use Rattle.query_filter.specs.TrickTable.{tricks_of}

-- ---- atoms on a board's marks

-- two markings are one
abbrev pub is_same_marking : Vulnerability → Vulnerability → Bool
is_same_marking a b = bytes_eq (vulnerability_text a) (vulnerability_text b)

-- two places are one
abbrev pub is_same_place : Place → Place → Bool
is_same_place a b = place_letter a == place_letter b

-- ---- atoms on results

-- two strains are one
abbrev pub is_same_strain : Strain → Strain → Bool
is_same_strain a b = strain_letter a == strain_letter b

-- the result is a contract that was played, and it passes the test
abbrev pub is_contract_that : (Contract → ℕ → Bool) → Outcome → Bool
is_contract_that test PassedOut = false
is_contract_that test (Played contract tricks) = test contract tricks

-- some shown result is a contract that was played, and it passes the test
abbrev pub some_played : (Contract → ℕ → Bool) → BoardFacts → Bool
some_played test facts = list_any (is_contract_that test) facts.outcomes

-- the tricks that were won fulfil the contract
abbrev pub is_made : Contract → ℕ → Bool
is_made contract tricks = nat_le (tricks_needed contract) tricks

-- ---- atoms on the double-dummy table

-- there is a table, and its number is between the bounds
abbrev pub table_has : Option TrickTable → Place → Strain → Bounds → Bool
table_has None declarer strain tricks = false
table_has (Some table) declarer strain tricks = is_between tricks (tricks_of table strain declarer)

-- ---- filters

-- an atom, in the order of their table. Each looks for a result of its own; a passed-out board has a score alone
abbrev pub atom_holds : Atom → BoardFacts → Bool
atom_holds (atom.Vulnerability marking) facts = is_same_marking facts.vulnerability marking
atom_holds (atom.Dealer place) facts = is_same_place facts.dealer place
atom_holds (atom.Level levels) facts = some_played (λ contract tricks. is_between levels contract.level) facts
atom_holds (atom.Strain strain) facts = some_played (λ contract tricks. is_same_strain contract.strain strain) facts
atom_holds (atom.Doubled doubling) facts =
    some_played (λ contract tricks. times_doubled contract.doubling == times_doubled doubling) facts
atom_holds (atom.Made made) facts = some_played (λ contract tricks. beq (is_made contract tricks) made) facts
atom_holds (atom.Score scores) facts =
    list_any (λ outcome. is_score_between scores (ns_score_of outcome facts.vulnerability)) facts.outcomes
atom_holds (atom.DoubleDummy declarer strain tricks) facts = table_has facts.tricks declarer strain tricks

-- a formula: the contrary, each, and some, as the words say
abbrev mutual
  pub holds : Formula → BoardFacts → Bool
  holds (Is atom) facts = atom_holds atom facts
  holds (Not other) facts = not (holds other facts)
  holds (And members) facts = all_hold members facts
  holds (Or members) facts = any_holds members facts

  pub all_hold : Formulas → BoardFacts → Bool
  all_hold no_formula facts = true
  all_hold (formula_then f fs) facts = holds f facts && all_hold fs facts

  pub any_holds : Formulas → BoardFacts → Bool
  any_holds no_formula facts = false
  any_holds (formula_then f fs) facts = holds f facts || any_holds fs facts
