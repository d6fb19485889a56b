-- What a value's one member, and what the elements of a list say of the whole.
use Rattle.std.proofs.Common.{
  ◌≡◌,
  ℕ,
  zero,
  suc,
  get_or,
  drop,
  ◌+◌,
  ◌-◌,
  ◌<◌,
  ◌≤◌,
  max,
  List,
  [],
  ◌∷◌,
  ◌++◌,
  length,
  Bool,
  true,
  false,
  cond,
  nat_le,
  ◌&&◌,
  codes,
  Option,
  Some,
  None,
  IsSome,
  is_some,
  Err,
  option_map,
  option_and_then,
  refl,
  ap,
  sym,
  subst,
  ◌∙◌,
  arith,
}
use Rattle.std.proofs.lemmas.Grind.{common_steps}
use Rattle.std.proofs.lemmas.Option.{same_Some}
use Rattle.serde_json.specs.Data.{
  Data,
  null,
  boolean,
  number,
  string,
  array,
  object,
  Items,
  no_items,
  item,
  no_members,
  member,
}
use Rattle.serde_json.specs.Find.{as_array}
use Rattle.serde_json.specs.View.{view, items_view}
use Rattle.serde_json.specs.declared.value.Value.{Value}
use Rattle.std.specs.Str.{bytes_eq}
use Rattle.std.proofs.lemmas.Bool.{false_from_ne_true}
use Rattle.std.proofs.lemmas.Slice.Eq.{bytes_eq-Decides}
use Rattle.json_fields.proofs.ListLemmas.{item_count_of}
use Rattle.json_fields.specs.Form.{item_count}
use Rattle.query_filter.proofs.LimitLemmas.{left_after_first}
use Rattle.query_filter.specs.declared.condition.Condition.{Condition}
use Rattle.query_filter.specs.Formula.{Formula, Is, Not, And, Or, Formulas, no_formula, formula_then, formula, formulas}
use Rattle.query_filter.specs.Limits.{
  depth,
  deepest,
  atoms,
  atoms_of_all,
  is_list_within,
  all_have_lists_within,
  most_depth,
  most_atoms,
  most_members,
  member_count,
  has_lists_within,
  is_within_limits,
  left_after,
  left_after_all,
}
use Rattle.query_filter.specs.declared.atom.Atom.{Atom}
use Rattle.json_fields.specs.Atom.{atom_called}
use Rattle.json_fields.specs.Filter.{
  first_and_others,
  formula_of,
  formula_called,
  formulas_in,
  formulas_of,
  within_limits,
}
use Rattle.json_fields.specs.declared.filter_fault.FilterFault.{FilterFault}
use Rattle.json_fields.specs.declared.filter_fault.FilterFault.TheVariants.{BadField, OutOfMemory}
use Rattle.json_fields.specs.FilterReading.{ReadsFilter, FailsFilter, not_deeper, none_deeper, left_after_list}
use Rattle.json_fields.specs.SoleMember.{sole_member}

-- ---- objects of one member

-- what the one member is
abbrev pub formula_by : Option (List ℕ × Data) → Option Formula
formula_by None = None
formula_by (Some m) = formula_called m.0 m.1

-- a value is the formula that its one member is
pub formula_of_sole : (d : Data) → formula_of d ≡ formula_by (sole_member d)
formula_of_sole null = refl
formula_of_sole (boolean b) = refl
formula_of_sole (number n) = refl
formula_of_sole (string s) = refl
formula_of_sole (array ds) = refl
formula_of_sole (object no_members) = refl
formula_of_sole (object (member name d no_members)) = refl
formula_of_sole (object (member name d (member other e ms))) = refl

-- a list's formulas are those of its elements
pub formulas_in_array : (d : Data) → formulas_in d ≡ option_and_then formulas_of (as_array d)
formulas_in_array null = refl
formulas_in_array (boolean b) = refl
formulas_in_array (number n) = refl
formulas_in_array (string s) = refl
formulas_in_array (array ds) = refl
formulas_in_array (object ms) = refl

-- ---- depth

-- each formula has a depth
some_depth : (f : Formula) → nat_le (depth f) 0 ≡ false
some_depth (Is atom) = refl
some_depth (Not other) = grind (arith, common_steps)
some_depth (And members) = grind (arith, common_steps)
some_depth (Or members) = grind (arith, common_steps)

-- a step down
step_down : (a deep : ℕ) → 1 ≤ deep → nat_le (a + 1) deep ≡ nat_le a (deep - 1)
step_down a deep h = grind (arith, common_steps)

pub none_left_at_no_depth : (many : ℕ) (o : Option Formula) → option_and_then (left_after 0 many) o ≡ None
none_left_at_no_depth many None = refl
none_left_at_no_depth many (Some f) = rw (some_depth f) refl

pub none_at_no_depth : (o : Option Formula) → option_and_then (not_deeper 0) o ≡ None
none_at_no_depth None = refl
none_at_no_depth (Some f) = rw (some_depth f) refl

-- ---- how many atoms are left

pub left_after_contrary : (deep many : ℕ) (o : Option Formula) → 1 ≤ deep
    → option_and_then (left_after deep many) (option_map Not o) ≡ option_and_then (left_after (deep - 1) many) o
left_after_contrary deep many None h = refl
left_after_contrary deep many (Some f) h = rw (step_down (depth f) deep h) refl

-- a list's own test may come first
list_first : {A : Type 0} (a b within c : Bool) (o : Option A)
    → cond (a && (b && (within && c))) o None ≡ cond within (cond (a && (b && c)) o None) None
list_first true true true c o = refl
list_first true true false c o = refl
list_first true false true c o = refl
list_first true false false c o = refl
list_first false true true c o = refl
list_first false true false c o = refl
list_first false false true c o = refl
list_first false false false c o = refl

pub left_after_each : (deep many : ℕ) (o : Option Formulas) → 1 ≤ deep
    → option_and_then (left_after deep many) (option_map And o) ≡ option_and_then (left_after_list (deep - 1) many) o
left_after_each deep many None h = refl
left_after_each deep many (Some fs) h =
    rw (step_down (deepest fs) deep h)
    (list_first (nat_le (deepest fs) (deep - 1)) (nat_le (atoms_of_all fs) many) (is_list_within fs)
    (all_have_lists_within fs) (Some (many - atoms_of_all fs)))

pub left_after_some : (deep many : ℕ) (o : Option Formulas) → 1 ≤ deep
    → option_and_then (left_after deep many) (option_map Or o) ≡ option_and_then (left_after_list (deep - 1) many) o
left_after_some deep many None h = refl
left_after_some deep many (Some fs) h =
    rw (step_down (deepest fs) deep h)
    (list_first (nat_le (deepest fs) (deep - 1)) (nat_le (atoms_of_all fs) many) (is_list_within fs)
    (all_have_lists_within fs) (Some (many - atoms_of_all fs)))

no_choice : {A : Type 0} (b : Bool) (x : A) → x ≡ cond b x x
no_choice true x = refl
no_choice false x = refl

nothing_after : {A B : Type 0} (o : Option A) (nothing : Option B) → nothing ≡ None → option_and_then (λ _. nothing) o ≡
    None
nothing_after None nothing h = refl
nothing_after (Some x) nothing h = h

-- what is left after a list is left after its first element and then after the others
pub left_after_first_item : (deep many : ℕ) (o : Option Formula) (others : Option Formulas)
    → option_and_then (left_after_all deep many) (first_and_others o others)
    ≡ option_and_then (λ left. option_and_then (left_after_all deep left) others)
    (option_and_then (left_after deep many) o)
left_after_first_item deep many None others = refl
left_after_first_item deep many (Some f) None = sym (nothing_after (left_after deep many f) None refl)
left_after_first_item deep many (Some f) (Some fs) = left_after_first deep many f fs

-- a list has as many formulas as elements
as_many : (ds : Items) (o : Option Formula) (others : Option Formulas) (fs : Formulas) → others ≡ formulas_of ds
    → ((gs : Formulas) → formulas_of ds ≡ Some gs → member_count gs ≡ item_count ds)
    → first_and_others o others ≡ Some fs → member_count fs ≡ item_count ds + 1
as_many ds None others fs is counts h = absurd (cc)
as_many ds (Some f) None fs is counts h = absurd (cc)
as_many ds (Some f) (Some gs) fs is counts h =
    ap member_count (sym (same_Some (formula_then f gs) fs h)) ∙ ap (λ n. n + 1) (counts gs (sym is))

count_of : (ds : Items) (fs : Formulas) → formulas_of ds ≡ Some fs → member_count fs ≡ item_count ds
count_of no_items fs h = sym (ap member_count (same_Some no_formula fs h))
count_of (item d ds) fs h = as_many ds (formula_of d) (formulas_of ds) fs refl (count_of ds) h

-- the test of a list's length may be of its elements
after_count : (deep many n : ℕ) (o : Option Formulas) → ((fs : Formulas) → o ≡ Some fs → member_count fs ≡ n)
    → option_and_then (left_after_list deep many) o
    ≡ cond (nat_le 1 n && nat_le n most_members) (option_and_then (left_after_all deep many) o) None
after_count deep many n None counts = no_choice (nat_le 1 n && nat_le n most_members) None
after_count deep many n (Some fs) counts = rw (counts fs refl) refl

pub left_after_items : (deep many : ℕ) (ds : Items)
    → option_and_then (left_after_list deep many) (formulas_of ds)
    ≡ cond (nat_le 1 (item_count ds) && nat_le (item_count ds) most_members) (option_and_then (left_after_all deep many)
    (formulas_of ds)) None
left_after_items deep many ds = after_count deep many (item_count ds) (formulas_of ds) (count_of ds)

-- the same of the values of a list
pub left_after_values : (deep many : ℕ) (values : List Value)
    → option_and_then (left_after_list deep many) (formulas_of (items_view values))
    ≡ cond (nat_le 1 (length values) && nat_le (length values) most_members) (option_and_then (left_after_all deep many)
    (formulas_of (items_view values))) None
left_after_values deep many values =
    left_after_items deep many (items_view values)
    ∙ ap (λ n. cond (nat_le 1 n && nat_le n most_members) (option_and_then (left_after_all deep many)
    (formulas_of (items_view values))) None) (item_count_of values)

pub list_within : {A : Type 0} (n : ℕ) (o : Option A) → 1 ≤ n → n ≤ most_members →
    cond (nat_le 1 n && nat_le n most_members) o None ≡ o
list_within n o least most = grind (arith, common_steps)

pub list_empty : {A : Type 0} (n : ℕ) (o : Option A) → n < 1 → cond (nat_le 1 n && nat_le n most_members) o None ≡ None
list_empty n o h = grind (arith, common_steps)

pub list_too_long : {A : Type 0} (n : ℕ) (o : Option A) → most_members < n → cond (nat_le 1 n && nat_le n most_members)
    o None ≡ None
list_too_long n o h = grind (arith, common_steps)

-- what is left after the values from one on is left after that and then after the next ones
pub left_after_next : (deep left : ℕ) (values : List Value) (i : ℕ) (v : Value) → i < length values →
    v ≡ get_or values i v
    → option_and_then (left_after_all deep left) (formulas_of (items_view (drop i values)))
    ≡ option_and_then (λ n. option_and_then (left_after_all deep n) (formulas_of (items_view (drop (suc i) values))))
    (option_and_then (left_after deep left) (formula_of (view v)))
left_after_next deep left [] i v below is = absurd (omega arith)
left_after_next deep left (w ∷ values) zero v below is =
    rw is (left_after_first_item deep left (formula_of (view w)) (formulas_of (items_view values)))
left_after_next deep left (w ∷ values) (suc i) v below is = left_after_next deep left values i v (omega arith) is

-- and so of what was read
pub read_next : (values : List Value) (i : ℕ) (v : Value) → i < length values → v ≡ get_or values i v
    → formulas_of (items_view (drop i values)) ≡ first_and_others (formula_of (view v))
    (formulas_of (items_view (drop (suc i) values)))
read_next [] i v below is = absurd (omega arith)
read_next (w ∷ values) zero v below is = rw is refl
read_next (w ∷ values) (suc i) v below is = read_next values i v (omega arith) is

-- ---- too deep

deeper : (a deep : ℕ) → 1 ≤ deep → nat_le a (deep - 1) ≡ false → nat_le (a + 1) deep ≡ false
deeper a deep h e = step_down a deep h ∙ e

refused : {A : Type 0} (b : Bool) (x : A) → cond b (Some x) None ≡ None → b ≡ false
refused true x h = absurd (cc)
refused false x h = refl

-- a contrary is too deep where its formula is, and so is a list
pub contrary_deeper : (deep : ℕ) (o : Option Formula) → 1 ≤ deep → option_and_then (not_deeper (deep - 1)) o ≡ None
    → option_and_then (not_deeper deep) (option_map Not o) ≡ None
contrary_deeper deep None h e = refl
contrary_deeper deep (Some f) h e = rw (deeper (depth f) deep h (refused (nat_le (depth f) (deep - 1)) f e)) refl

pub each_deeper : (deep : ℕ) (o : Option Formulas) → 1 ≤ deep → option_and_then (none_deeper (deep - 1)) o ≡ None
    → option_and_then (not_deeper deep) (option_map And o) ≡ None
each_deeper deep None h e = refl
each_deeper deep (Some fs) h e = rw (deeper (deepest fs) deep h (refused (nat_le (deepest fs) (deep - 1)) fs e)) refl

pub some_deeper : (deep : ℕ) (o : Option Formulas) → 1 ≤ deep → option_and_then (none_deeper (deep - 1)) o ≡ None
    → option_and_then (not_deeper deep) (option_map Or o) ≡ None
some_deeper deep None h e = refl
some_deeper deep (Some fs) h e = rw (deeper (deepest fs) deep h (refused (nat_le (deepest fs) (deep - 1)) fs e)) refl

-- ---- by a member's name

differs : (a b : List ℕ) → (a ≡ b → ⊥) → bytes_eq a b ≡ false
differs a b other = false_from_ne_true (bytes_eq a b) (λ e. other ((bytes_eq-Decides a b).0 e))

-- a list of formulas, a contrary and an atom, each as its name says
pub each_called : (name : List ℕ) (d : Data) (fs : Formulas) → name ≡ codes "and" → formulas_in d ≡ Some fs
    → formula_called name d ≡ Some (And fs)
each_called name d fs is read = rw is (ap (option_map And) read)

pub some_called : (name : List ℕ) (d : Data) (fs : Formulas) → name ≡ codes "or" → formulas_in d ≡ Some fs
    → formula_called name d ≡ Some (Or fs)
some_called name d fs is read = rw is (ap (option_map Or) read)

pub contrary_called : (name : List ℕ) (d : Data) (f : Formula) → name ≡ codes "not" → formula_of d ≡ Some f
    → formula_called name d ≡ Some (Not f)
contrary_called name d f is read = rw is (ap (option_map Not) read)

pub atom_named : (name : List ℕ) (d : Data) (read : Option Atom) → (name ≡ codes "and" → ⊥) → (name ≡ codes "or" → ⊥)
    → (name ≡ codes "not" → ⊥) → read ≡ atom_called name d → formula_called name d ≡ option_map Is read
atom_named name d read not_and not_or not_not is =
    rw (differs name (codes "and") not_and, differs name (codes "or") not_or, differs name (codes "not") not_not, is)
    refl

-- where what a member's name says isn't read, the member isn't
pub each_fails : (deep : ℕ) (name : List ℕ) (d : Data) (fault : FilterFault) → 1 ≤ deep → name ≡ codes "and"
    → FailsFilter fault (option_and_then (none_deeper (deep - 1)) (formulas_in d))
    → FailsFilter fault (option_and_then (not_deeper deep) (formula_called name d))
each_fails deep name d BadField h is e = rw is (each_deeper deep (formulas_in d) h e)
each_fails deep name d OutOfMemory h is e = tt

pub some_fails : (deep : ℕ) (name : List ℕ) (d : Data) (fault : FilterFault) → 1 ≤ deep → name ≡ codes "or"
    → FailsFilter fault (option_and_then (none_deeper (deep - 1)) (formulas_in d))
    → FailsFilter fault (option_and_then (not_deeper deep) (formula_called name d))
some_fails deep name d BadField h is e = rw is (some_deeper deep (formulas_in d) h e)
some_fails deep name d OutOfMemory h is e = tt

pub contrary_fails : (deep : ℕ) (name : List ℕ) (d : Data) (fault : FilterFault) → 1 ≤ deep → name ≡ codes "not"
    → FailsFilter fault (option_and_then (not_deeper (deep - 1)) (formula_of d))
    → FailsFilter fault (option_and_then (not_deeper deep) (formula_called name d))
contrary_fails deep name d BadField h is e = rw is (contrary_deeper deep (formula_of d) h e)
contrary_fails deep name d OutOfMemory h is e = tt

-- ---- lists, element by element

-- what conditions that were read say, before what others do
abbrev pub with_front : List Condition → Option Formulas → Option Formulas
with_front [] others = others
with_front (c ∷ cs) others = first_and_others (Some (formula c)) (with_front cs others)

pub with_front_last : (cs : List Condition) (c : Condition) (others : Option Formulas)
    → with_front (cs ++ c ∷ []) others ≡ with_front cs (first_and_others (Some (formula c)) others)
with_front_last [] c others = refl
with_front_last (d ∷ cs) c others = ap (first_and_others (Some (formula d))) (with_front_last cs c others)

pub with_front_all : (cs : List Condition) → with_front cs (Some no_formula) ≡ Some (formulas cs)
with_front_all [] = refl
with_front_all (c ∷ cs) = ap (first_and_others (Some (formula c))) (with_front_all cs)

either_above : (a b deep : ℕ) → nat_le b deep ≡ false → nat_le (max a b) deep ≡ false
either_above a b deep h = grind (arith, common_steps)

first_above : (a b deep : ℕ) → nat_le a deep ≡ false → nat_le (max a b) deep ≡ false
first_above a b deep h = grind (arith, common_steps)

-- a list is too deep where an element is
pub first_deeper : (deep : ℕ) (o : Option Formula) (others : Option Formulas) → option_and_then (not_deeper deep) o ≡
    None
    → option_and_then (none_deeper deep) (first_and_others o others) ≡ None
first_deeper deep None others e = refl
first_deeper deep (Some f) None e = refl
first_deeper deep (Some f) (Some fs) e =
    rw (first_above (depth f) (deepest fs) deep (refused (nat_le (depth f) deep) f e)) refl

others_deeper : (deep : ℕ) (f : Formula) (others : Option Formulas) → option_and_then (none_deeper deep) others ≡ None
    → option_and_then (none_deeper deep) (first_and_others (Some f) others) ≡ None
others_deeper deep f None e = refl
others_deeper deep f (Some fs) e =
    rw (either_above (depth f) (deepest fs) deep (refused (nat_le (deepest fs) deep) fs e)) refl

pub with_front_deeper : (deep : ℕ) (cs : List Condition) (others : Option Formulas) → option_and_then (none_deeper deep)
    others ≡ None
    → option_and_then (none_deeper deep) (with_front cs others) ≡ None
with_front_deeper deep [] others e = e
with_front_deeper deep (c ∷ cs) others e =
    others_deeper deep (formula c) (with_front cs others) (with_front_deeper deep cs others e)

front_fails : (deep : ℕ) (cs : List Condition) (o : Option Formula) (others : Option Formulas) (fault : FilterFault)
    → FailsFilter fault (option_and_then (not_deeper deep) o)
    → FailsFilter fault (option_and_then (none_deeper deep) (with_front cs (first_and_others o others)))
front_fails deep cs o others BadField h =
    with_front_deeper deep cs (first_and_others o others) (first_deeper deep o others h)
front_fails deep cs o others OutOfMemory h = tt

-- where the next value isn't read, the list isn't
pub value_fails : (deep : ℕ) (cs : List Condition) (values : List Value) (i : ℕ) (v : Value) (fault : FilterFault)
    → formulas_of (items_view values) ≡ with_front cs (formulas_of (items_view (drop i values)))
    → i < length values → v ≡ get_or values i v
    → FailsFilter fault (option_and_then (not_deeper deep) (formula_of (view v)))
    → FailsFilter fault (option_and_then (none_deeper deep) (formulas_of (items_view values)))
value_fails deep cs values i v fault kept below is h =
    subst (λ o. FailsFilter fault (option_and_then (none_deeper deep) o))
    (sym (kept ∙ ap (with_front cs) (read_next values i v below is)))
    (front_fails deep cs (formula_of (view v)) (formulas_of (items_view (drop (suc i) values))) fault h)

-- the next value that is read
pub value_kept : (cs : List Condition) (values : List Value) (i : ℕ) (v : Value) (c : Condition)
    → formulas_of (items_view values) ≡ with_front cs (formulas_of (items_view (drop i values)))
    → i < length values → v ≡ get_or values i v → formula_of (view v) ≡ Some (formula c)
    → formulas_of (items_view values) ≡ with_front (cs ++ c ∷ []) (formulas_of (items_view (drop (suc i) values)))
value_kept cs values i v c kept below is read =
    kept
    ∙ (ap (with_front cs) (read_next values i v below is
    ∙ ap (λ o. first_and_others o (formulas_of (items_view (drop (suc i) values)))) read)
    ∙ sym (with_front_last cs c (formulas_of (items_view (drop (suc i) values)))))

drop-past : {A : Type 0} (xs : List A) (i : ℕ) → length xs ≤ i → drop i xs ≡ []
drop-past [] zero h = refl
drop-past [] (suc i) h = refl
drop-past (x ∷ xs) zero h = absurd (omega arith)
drop-past (x ∷ xs) (suc i) h = drop-past xs i (omega arith)

-- the end of the list
pub all_kept : (cs : List Condition) (values : List Value) (i : ℕ)
    → formulas_of (items_view values) ≡ with_front cs (formulas_of (items_view (drop i values)))
    → length values ≤ i → formulas_of (items_view values) ≡ Some (formulas cs)
all_kept cs values i kept end =
    kept ∙ (ap (λ vs. with_front cs (formulas_of (items_view vs))) (drop-past values i end) ∙ with_front_all cs)

-- ---- the whole

pub unchecked : (o : Option Formula) → option_and_then (left_after most_depth most_atoms) o ≡ None →
    option_and_then within_limits o ≡ None
unchecked None h = refl
unchecked (Some f) h = rw (refused (is_within_limits f) (most_atoms - atoms f) h) refl

pub none_left : (o : Option Formula) (r : Option ℕ) → r ≡ option_and_then (left_after most_depth most_atoms) o →
    is_some r ≡ false
    → option_and_then within_limits o ≡ None
none_left o None is h = unchecked o (sym is)
none_left o (Some left) is h = absurd (cc)

passed : {A B : Type 0} (b : Bool) (x : A) (y : B) (z : A) → cond b (Some x) None ≡ Some z →
    IsSome (cond b (Some y) None)
passed true x y z h = refl
passed false x y z h = absurd (cc)

pub checked : (o : Option Formula) (left : ℕ) → option_and_then (left_after most_depth most_atoms) o ≡ Some left
    → IsSome (option_and_then within_limits o)
checked None left h = absurd (cc)
checked (Some f) left h = passed (is_within_limits f) (most_atoms - atoms f) f left h

some_left : (o : Option Formula) (r : Option ℕ) → r ≡ option_and_then (left_after most_depth most_atoms) o →
    is_some r ≡ true
    → IsSome (option_and_then within_limits o)
some_left o None is h = absurd (cc)
some_left o (Some left) is h = checked o left (sym is)

and_false : (a b : Bool) → a ≡ false → (a && b) ≡ false
and_false true b h = absurd (cc)
and_false false b h = refl

pub too_deep : (o : Option Formula) → option_and_then (not_deeper most_depth) o ≡ None → option_and_then within_limits o
    ≡ None
too_deep None h = refl
too_deep (Some f) h =
    rw (and_false (nat_le (depth f) most_depth) (nat_le (atoms f) most_atoms && has_lists_within f)
    (refused (nat_le (depth f) most_depth) f h)) refl

-- a fault after the check
pub fault_reads : (o : Option Formula) (r : Option ℕ) (fault : FilterFault) → r ≡ option_and_then
    (left_after most_depth most_atoms) o
    → is_some r ≡ true → FailsFilter fault (option_and_then (not_deeper most_depth) o) → ReadsFilter (Err fault)
    (option_and_then within_limits o)
fault_reads o r BadField is some h = too_deep o h
fault_reads o r OutOfMemory is some h = some_left o r is some
