-- How many atoms are left, member by member.
use Rattle.std.proofs.Common.{
  ◌≡◌,
  ℕ,
  ◌+◌,
  ◌-◌,
  ◌<◌,
  max,
  Bool,
  true,
  false,
  nat_le,
  ◌&&◌,
  if◌then◌else◌,
  Option,
  Some,
  None,
  option_and_then,
  List,
  [],
  ◌∷◌,
  length,
  map,
  drop,
  refl,
  ap,
  ◌∙◌,
  arith,
  get_or,
  drop-cons,
  add-one,
}
use Rattle.std.proofs.lemmas.Grind.{common_steps}
use Rattle.query_filter.specs.declared.condition.Condition.{Condition}
use Rattle.query_filter.specs.Formula.{Formula, formula, formulas, Formulas, no_formula, formula_then}
use Rattle.query_filter.specs.Limits.{
  depth,
  deepest,
  atoms,
  atoms_of_all,
  has_lists_within,
  all_have_lists_within,
  member_count,
  left_after,
  left_after_all,
}

-- the members of a list are as many as its conditions
pub member_count_formulas : (members : List Condition) → member_count (formulas members) ≡ length members
member_count_formulas [] = refl
member_count_formulas (m ∷ ms) = omega (arith, member_count_formulas ms)

left_of_sum : (a b deep x y many : ℕ) (p q : Bool)
    → (if nat_le (max a b) deep && (nat_le (x + y) many && (p && q)) then Some (many - (x + y)) else None)
    ≡ option_and_then (λ left. if nat_le b deep && (nat_le y left && q) then Some (left - y) else None)
    (if nat_le a deep && (nat_le x many && p) then Some (many - x) else None)
left_of_sum a b deep x y many true true = grind (arith, common_steps)
left_of_sum a b deep x y many true false = grind (arith, common_steps)
left_of_sum a b deep x y many false true = grind (arith, common_steps)
left_of_sum a b deep x y many false false = grind (arith, common_steps)

-- what is left after formulas is left after the first and then after the others
pub left_after_first : (deep many : ℕ) (f : Formula) (fs : Formulas)
    → left_after_all deep many (formula_then f fs) ≡ option_and_then (λ left. left_after_all deep left fs)
    (left_after deep many f)
left_after_first deep many f fs =
    left_of_sum (depth f) (deepest fs) deep (atoms f) (atoms_of_all fs) many (has_lists_within f)
    (all_have_lists_within fs)
