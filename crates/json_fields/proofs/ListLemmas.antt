-- The elements of a list: how many there are, and what is read of them one after another.
use Rattle.std.proofs.Common.{
  ◌≡◌,
  ℕ,
  zero,
  suc,
  ◌<◌,
  List,
  [],
  ◌∷◌,
  ◌++◌,
  length,
  get_or,
  drop,
  Option,
  Some,
  None,
  option_map,
  refl,
  sym,
  ap,
  ◌∙◌,
  append_assoc,
  arith,
}
use Rattle.serde_json.specs.Data.{Data}
use Rattle.serde_json.specs.View.{view, items_view}
use Rattle.serde_json.specs.declared.value.Value.{Value}
use Rattle.json_fields.specs.Form.{item_count, first_then, each}

pub item_count_of : (values : List Value) → item_count (items_view values) ≡ length values
item_count_of [] = refl
item_count_of (value ∷ values) = omega (arith, item_count_of values)

-- what is read of the elements that are left, after what was read before
abbrev pub with_front : {A : Type 0} → List A → Option (List A) → Option (List A)
with_front front read = option_map (λ rest. front ++ rest) read

-- what is read from an element on is what is read of it, before what is read of the next ones
each_next : {A : Type 0} (read : Data → Option A) (values : List Value) (i : ℕ) (v : Value) → i < length values →
    v ≡ get_or values i v
    → each read (items_view (drop i values)) ≡ first_then (read (view v)) (each read (items_view (drop (suc i) values)))
each_next read [] i v below is = absurd (omega arith)
each_next read (w ∷ values) zero v below is = rw is refl
each_next read (w ∷ values) (suc i) v below is = each_next read values i v (omega arith) is

with_front_last : {A : Type 0} (front : List A) (x : A) (others : Option (List A))
    → with_front (front ++ x ∷ []) others ≡ with_front front (first_then (Some x) others)
with_front_last front x None = refl
with_front_last front x (Some others) = ap Some (append_assoc front (x ∷ []) others)

-- the next element that is read
pub each_kept : {A : Type 0} (read : Data → Option A) (front : List A) (values : List Value) (i : ℕ) (v : Value) (x : A)
    (all : Option (List A))
    → with_front front (each read (items_view (drop i values))) ≡ all
    → i < length values → v ≡ get_or values i v → read (view v) ≡ Some x
    → with_front (front ++ x ∷ []) (each read (items_view (drop (suc i) values))) ≡ all
each_kept read front values i v x all kept below is found =
    with_front_last front x (each read (items_view (drop (suc i) values)))
    ∙ (ap (λ o. with_front front (first_then o (each read (items_view (drop (suc i) values))))) (sym found)
    ∙ (ap (with_front front) (sym (each_next read values i v below is)) ∙ kept))
