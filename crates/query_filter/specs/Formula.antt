-- What a condition says, as plain data.
use Rattle.std.specs.Prelude.{List, [], ◌∷◌, map}
use Rattle.query_filter.specs.declared.atom.Atom.{Atom}
use Rattle.query_filter.specs.declared.condition.Condition.{Condition, fold-Condition}
use Rattle.query_filter.specs.declared.condition.Condition.TheOpen.{Condition-F}

mutual
  -- an atom; the contrary of a formula; and formulas of which each, or some, is to hold
  pub data Formula : Type 0 where
    Is : Atom → Formula
    Not : Formula → Formula
    And : Formulas → Formula
    Or : Formulas → Formula

  -- a list of formulas
  pub data Formulas : Type 0 where
    no_formula : Formulas
    formula_then : Formula → Formulas → Formulas

-- the formulas of a list
abbrev pub formulas_from : List Formula → Formulas
formulas_from [] = no_formula
formulas_from (f ∷ fs) = formula_then f (formulas_from fs)

-- one level, with each condition inside already seen as its formula
abbrev pub formula_step : Condition-F Formula → Formula
formula_step (Condition-F.Atom atom) = Is atom
formula_step (Condition-F.Not other) = Not other.value
formula_step (Condition-F.And members) = And (formulas_from members.items)
formula_step (Condition-F.Or members) = Or (formulas_from members.items)

-- what a condition says
abbrev pub formula : Condition → Formula
formula = fold-Condition Formula formula_step

-- and what conditions say
abbrev pub formulas : List Condition → Formulas
formulas members = formulas_from (map formula members)
