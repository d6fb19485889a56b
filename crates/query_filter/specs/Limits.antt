-- own: how large a filter may be.
use Rattle.std.specs.Prelude.{ℕ, ◌+◌, ◌-◌, max, Bool, true, nat_le, ◌&&◌, if◌then◌else◌, Option, Some, None}
use Rattle.query_filter.specs.declared.filter.TheConstants.Filter.{MOST_DEPTH, MOST_ATOMS, MOST_MEMBERS}
use Rattle.query_filter.specs.Formula.{Formula, Is, Not, And, Or, Formulas, no_formula, formula_then}

-- an atom has depth 1, every other formula one more than its deepest member
abbrev mutual
  pub depth : Formula → ℕ
  depth (Is atom) = 1
  depth (Not other) = depth other + 1
  depth (And members) = deepest members + 1
  depth (Or members) = deepest members + 1

  pub deepest : Formulas → ℕ
  deepest no_formula = 0
  deepest (formula_then f fs) = max (depth f) (deepest fs)

-- how many atoms stand in a formula
abbrev mutual
  pub atoms : Formula → ℕ
  atoms (Is atom) = 1
  atoms (Not other) = atoms other
  atoms (And members) = atoms_of_all members
  atoms (Or members) = atoms_of_all members

  pub atoms_of_all : Formulas → ℕ
  atoms_of_all no_formula = 0
  atoms_of_all (formula_then f fs) = atoms f + atoms_of_all fs

abbrev pub most_depth : ℕ
most_depth = MOST_DEPTH

abbrev pub most_atoms : ℕ
most_atoms = MOST_ATOMS

abbrev pub most_members : ℕ
most_members = MOST_MEMBERS

-- how many members a list has
abbrev pub member_count : Formulas → ℕ
member_count no_formula = 0
member_count (formula_then f fs) = member_count fs + 1

-- a list that isn't empty and isn't too long
abbrev pub is_list_within : Formulas → Bool
is_list_within members = nat_le 1 (member_count members) && nat_le (member_count members) most_members

-- each list in a formula is such a list
abbrev mutual
  pub has_lists_within : Formula → Bool
  has_lists_within (Is atom) = true
  has_lists_within (Not other) = has_lists_within other
  has_lists_within (And members) = is_list_within members && all_have_lists_within members
  has_lists_within (Or members) = is_list_within members && all_have_lists_within members

  pub all_have_lists_within : Formulas → Bool
  all_have_lists_within no_formula = true
  all_have_lists_within (formula_then f fs) = has_lists_within f && all_have_lists_within fs

-- a formula that a filter may be: not too deep, with not too many atoms, and in each list one member or more, but not
-- too many
abbrev pub is_within_limits : Formula → Bool
is_within_limits f = nat_le (depth f) most_depth && (nat_le (atoms f) most_atoms && has_lists_within f)

-- ---- how many atoms may still follow, where so many might stand

-- after a formula: none, where it is too deep, has too many atoms, or has a list that is empty or too long
abbrev pub left_after : ℕ → ℕ → Formula → Option ℕ
left_after deep many f =
    if nat_le (depth f) deep && (nat_le (atoms f) many && has_lists_within f) then Some (many - atoms f) else None

-- after formulas
abbrev pub left_after_all : ℕ → ℕ → Formulas → Option ℕ
left_after_all deep many fs =
    if nat_le (deepest fs) deep && (nat_le (atoms_of_all fs) many && all_have_lists_within fs)
    then Some (many - atoms_of_all fs)
    else None
