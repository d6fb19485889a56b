-- What is kept of a list has what all of it had, and so has a list with one more.
use Rattle.std.proofs.Common.{◌≡◌, ◌++◌, Bool, true, false, List, [], ◌∷◌, All, subst, sym}
use Rattle.std.specs.List.{items_where_true}
use Rattle.std.specs.List.Retain.{IsFiltered}
use Rattle.std.proofs.lemmas.List.Elements.{All-nil, All-cons, All-head, All-tail, All-push}

module _ {X : Type 0} (P : X → Type 0) where
  where_true : (bs : List Bool) (xs : List X) → All P xs → All P (items_where_true bs xs)
  where_true [] xs all = All-nil P
  where_true (b ∷ bs) [] all = All-nil P
  where_true (true ∷ bs) (x ∷ xs) all = All-cons P x (items_where_true bs xs) (All-head P x xs all)
      (where_true bs xs (All-tail P x xs all))
  where_true (false ∷ bs) (x ∷ xs) all = where_true bs xs (All-tail P x xs all)

  -- what `retain` keeps
  pub all_kept : {F : Type 0} {R : F → X → Bool → F → Type 0} {f : F} (xs ys : List X) → IsFiltered R f xs ys →
      All P xs → All P ys
  all_kept xs ys kept all = subst (All P) (sym kept.4) (where_true kept.0 xs all)

  -- what `push` leaves
  pub all_added : (xs ys : List X) (x : X) → ys ≡ xs ++ x ∷ [] → All P xs → P x → All P ys
  all_added xs ys x is all one = subst (All P) (sym is) (All-push P xs x all one)
