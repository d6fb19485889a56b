-- What is kept of a list that can be played is the list in the order of its places.
use Rattle.std.proofs.Common.{
  ◌≡◌,
  ℕ,
  zero,
  suc,
  ◌+◌,
  ◌/◌,
  ◌%◌,
  ◌<◌,
  ◌≤◌,
  Bool,
  true,
  false,
  cond,
  List,
  [],
  ◌∷◌,
  get_or,
  refl,
  sym,
  ap,
  ◌∙◌,
  inl,
  inr,
  Contains,
  arith,
}
use Rattle.std.specs.Prelude.{Option, Some, None, ◌⊎◌, slice_index_or}
use Rattle.std.specs.List.{filter_map, cons_option, find, range_with_len}
use Rattle.std.proofs.lemmas.Bool.{cases_Bool, false≢true, eqb-true, eq-eqb, false_from_ne_true}
use Rattle.std.proofs.lemmas.List.Elements.{Contains-append_right, Contains-append_cases}
use Rattle.movement.specs.declared.row.Row.{Row}
use Rattle.movement.specs.declared.sitting.Sitting.{Sitting}
use Rattle.movement.specs.Kept.{places, place_of, row_of_sitting, row_at, kept_rows}
use Rattle.movement.specs.Listed.{is_at, by_place}
use Rattle.movement.proofs.FillLemmas.{HoldsRows}
use Rattle.movement.proofs.KeptLemmas.{kept_row, row_kept}

-- two ways to look that find the same at each number find the same at all
found_alike : {Y : Type 0} (f g : ℕ → Option Y) (first n : ℕ) →
    ((k : ℕ) → first ≤ k → k < first + n → f k ≡ g k) →
    filter_map f (range_with_len first n) ≡ filter_map g (range_with_len first n)
found_alike f g first zero alike = refl
found_alike f g first (suc n) alike =
    λ i. cons_option (alike first (omega arith) (omega arith) i)
    (found_alike f g (first + 1) n (λ k from to. alike k (omega arith) (omega arith)) i)

-- an element that is found: it is in the list, and it passes
record IsFound {X : Type 0} (p : X → Bool) (xs : List X) : Type 0 where
  it : X
  is : find p xs ≡ Some it
  inside : Contains xs it
  passes : p it ≡ true

-- where some element passes, one is found
found : {X : Type 0} (p : X → Bool) (xs : List X) (x : X) → Contains xs x → p x ≡ true → IsFound p xs
found p [] x (k, within, here) passes = absurd (omega arith)
found p (first ∷ rest) x among passes =
    elim (cases_Bool (p first)) [
      | inl first_passes ↦ record {
        it = first;
        is = ap (λ b. cond b (Some first) (find p rest)) first_passes;
        inside = (0, omega arith, refl);
        passes = first_passes;
      }
      | inr fails ↦
          later fails (found p rest x (behind fails (Contains-append_cases (first ∷ []) rest x among)) passes)
    ]
  where
    behind : p first ≡ false → Contains (first ∷ []) x ⊎ Contains rest x → Contains rest x
    behind fails (inr later) = later
    behind fails (inl (k, within, here)) = absurd (at_first k within here)
      where
        at_first : (k : ℕ) → k < 1 → get_or (first ∷ []) k x ≡ x → ⊥
        at_first zero below same = false≢true (sym fails ∙ ap p same ∙ passes)
        at_first (suc k) below same = omega arith

    later : p first ≡ false → IsFound p rest → IsFound p (first ∷ rest)
    later fails next = record {
      it = next.it;
      is = ap (λ b. cond b (Some first) (find p rest)) fails ∙ next.is;
      inside = Contains-append_right (first ∷ []) rest next.it next.inside;
      passes = next.passes;
    }

-- where none does, none is
not_found : {X : Type 0} (p : X → Bool) (xs : List X) → ((x : X) → Contains xs x → p x ≡ false) → find p xs ≡ None
not_found p [] none = refl
not_found p (first ∷ rest) none =
    ap (λ b. cond b (Some first) (find p rest)) (none first (0, omega arith, refl))
    ∙ not_found p rest (λ x later. none x (Contains-append_right (first ∷ []) rest x later))

module _ (rows : List Row) (sittings : List (Option Sitting)) (held : HoldsRows sittings rows) where
  -- a row that stands at a place is what is kept there
  at_place : (place : ℕ) → place < places → (kept : Option Sitting) → slice_index_or sittings place None ≡ kept →
      row_at sittings place ≡ find (is_at place) rows
  at_place place below (Some sitting) here =
      let row : Row = row_of_sitting place sitting in
      let among : Contains rows row = (held row).0 (row_kept sittings place sitting below here) in
      let own : place_of row.set row.table ≡ place = omega arith in
      let one = found (is_at place) rows row among (eq-eqb _ _ own) in
      let same_place : place_of one.it.set one.it.table ≡ place = eqb-true _ _ one.passes in
      let kept = kept_row sittings one.it ((held one.it).1 one.inside) in
      let set : kept.place / 16 + 1 ≡ one.it.set = kept.set in
      let table : kept.place % 16 + 1 ≡ one.it.table = kept.table in
      let at : place ≡ kept.place = omega arith in
      let who : sitting ≡ kept.sitting =
      given (sym here ∙ ap (λ place. slice_index_or sittings place None) at ∙ kept.here) in
      let same : row ≡ one.it = (λ i. row_of_sitting (at i) (who i)) ∙ kept.made in
      rw here (ap Some same ∙ sym one.is)
    where
      given : {one other : Sitting} → Some one ≡ Some other → one ≡ other
      given same = cc
  at_place place below None here =
      rw here (sym (not_found (is_at place) rows (λ row among.
      false_from_ne_true _ (λ test.
      let kept = kept_row sittings row ((held row).1 among) in
      let set : kept.place / 16 + 1 ≡ row.set = kept.set in
      let table : kept.place % 16 + 1 ≡ row.table = kept.table in
      let at : place_of row.set row.table ≡ place = eqb-true _ _ test in
      let same : kept.place ≡ place = omega arith in
      nothing (sym here ∙ ap (λ place. slice_index_or sittings place None) (sym same) ∙ kept.here)))))
    where
      nothing : {sitting : Sitting} → None ≡ Some sitting → ⊥
      nothing same = cc

  pub in_order_of_places : kept_rows sittings ≡ by_place rows
  unfolding kept_rows by_place
  in_order_of_places =
      found_alike (row_at sittings) (λ place. find (is_at place) rows) 0 places
      (λ place from to. at_place place (omega arith) (slice_index_or sittings place None) refl)
