-- A filter as a message has it: an object of one member, by whose name it is a list, a contrary or an atom.
use Rattle.std.specs.Prelude.{ℕ, List, if◌then◌else◌, codes, Option, Some, None, option_map, option_and_then}
use Rattle.std.specs.Str.{bytes_eq}
use Rattle.serde_json.specs.Data.{
  Data,
  null,
  boolean,
  number,
  string,
  array,
  object,
  Items,
  no_items,
  item,
  no_members,
  member,
}
use Rattle.query_filter.specs.declared.atom.Atom.{Atom}
use Rattle.query_filter.specs.Formula.{Formula, Is, Not, And, Or, Formulas, no_formula, formula_then}
use Rattle.query_filter.specs.Limits.{is_within_limits}
use Rattle.json_fields.specs.Atom.{atom_called}

-- a formula before others, where all of them are there
abbrev pub first_and_others : Option Formula → Option Formulas → Option Formulas
first_and_others None others = None
first_and_others (Some f) others = option_map (formula_then f) others

-- what an object's one member says by its name: a list's formulas, the contrary of a formula, or an atom
abbrev pub by_name : List ℕ → Option Formulas → Option Formula → Option Atom → Option Formula
by_name name members other atom =
    if bytes_eq name (codes "and") then option_map And members
    else if bytes_eq name (codes "or") then option_map Or members
    else if bytes_eq name (codes "not") then option_map Not other
    else option_map Is atom

-- the formula that a value is; and the formulas that a list's elements are
abbrev mutual
  pub formula_of : Data → Option Formula
  formula_of null = None
  formula_of (boolean b) = None
  formula_of (number n) = None
  formula_of (string s) = None
  formula_of (array ds) = None
  formula_of (object no_members) = None
  formula_of (object (member name d no_members)) = by_name name (formulas_in d) (formula_of d) (atom_called name d)
  formula_of (object (member name d (member other e ms))) = None

  pub formulas_in : Data → Option Formulas
  formulas_in null = None
  formulas_in (boolean b) = None
  formulas_in (number n) = None
  formulas_in (string s) = None
  formulas_in (array ds) = formulas_of ds
  formulas_in (object ms) = None

  pub formulas_of : Items → Option Formulas
  formulas_of no_items = Some no_formula
  formulas_of (item d ds) = first_and_others (formula_of d) (formulas_of ds)

-- the formula that a member of this name is
abbrev pub formula_called : List ℕ → Data → Option Formula
formula_called name d = by_name name (formulas_in d) (formula_of d) (atom_called name d)

-- a formula that isn't too large
abbrev pub within_limits : Formula → Option Formula
within_limits f = if is_within_limits f then Some f else None

-- the filter that a value is: a formula that isn't too large
abbrev pub filter_of : Data → Option Formula
filter_of d = option_and_then within_limits (formula_of d)
