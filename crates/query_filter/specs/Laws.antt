-- Words of the laws of filters.
use Rattle.std.specs.Prelude.{[], ◌∷◌}
use Rattle.scoring.specs.declared.outcome.Outcome.{Outcome}
use Rattle.query_filter.specs.declared.atom.Atom.{Atom}
use Rattle.query_filter.specs.declared.atom.Atom.TheVariants as atom
use Rattle.query_filter.specs.declared.board_facts.BoardFacts.{BoardFacts}
use Rattle.query_filter.specs.Formula.{Formulas, no_formula, formula_then, Not}

-- the atom asks for a result
abbrev pub IsOnResults : Atom → Type 0
IsOnResults (atom.Vulnerability marking) = ⊥
IsOnResults (atom.Dealer place) = ⊥
IsOnResults (atom.Level levels) = Unit {0}
IsOnResults (atom.Strain strain) = Unit {0}
IsOnResults (atom.Doubled doubling) = Unit {0}
IsOnResults (atom.Made made) = Unit {0}
IsOnResults (atom.Score scores) = Unit {0}
IsOnResults (atom.DoubleDummy declarer strain tricks) = ⊥

-- the board with this one result
abbrev pub with_one_outcome : BoardFacts → Outcome → BoardFacts
with_one_outcome facts outcome = record facts { outcomes = outcome ∷ [] }

-- the contrary of each
abbrev pub contraries : Formulas → Formulas
contraries no_formula = no_formula
contraries (formula_then f fs) = formula_then (Not f) (contraries fs)
