-- The boards in the order of reading, and in their places.
use Rattle.std.proofs.Common.{◌≡◌, ℕ, ◌<◌, Bool, true, List, [], length, inl, inr, refl, sym, ap, subst, ◌∙◌}
use Rattle.std.specs.Prelude.{Option, Some, None, IfSome, IfNone, slice_set, nat_eq, cond}
use Rattle.std.specs.Option.{ForSome}
use Rattle.std.proofs.lemmas.Bool.{true≢false, cases_Bool, eqb-true, eq-eqb}
use Rattle.std.proofs.lemmas.List.{get_or-set_other}
use Rattle.std.proofs.lemmas.Grind.{get_or-set_at}
use Rattle.std.specs.Map.{lookup}
use Rattle.indexmap.specs.IndexMap.{IndexMap, get}
use Rattle.pbn_pieces.proofs.CutLemmas.{some_same, none_some}
use Rattle.pbn_records.specs.declared.board.Board.{Board}
use Rattle.pbn_records.specs.InOrder.{HasOneMoreBoard, in_place}

module _ {S : Type 0} where
  -- no board is read yet, and none is in a place
  pub none_read : (places : List (Option Board)) (read : IndexMap ℕ Board S) →
      ((number : ℕ) → in_place places number ≡ None) →
      read.entries ≡ [] → ForSome (Some read) (λ boards. (number : ℕ) → get nat_eq boards number ≡ in_place places
      number)
  none_read places read free empty = λ boards is number.
      ap (λ (boards : IndexMap ℕ Board S). get nat_eq boards number) (sym (some_same read boards is))
      ∙ ap (lookup (nat_eq number)) empty ∙ sym (free number)

  -- one board more is read, and put in its place
  pub one_read : (held before after : Option (IndexMap ℕ Board S)) (places : List (Option Board)) (place number : ℕ)
      (board : Board) →
      before ≡ held → place ≡ number → number < length places →
      ForSome held (λ boards. (other : ℕ) → get nat_eq boards other ≡ in_place places other) →
      IfSome after (λ more. ForSome before (λ boards. HasOneMoreBoard boards number board more)) → IfNone before
      (after ≡ None) →
      ForSome after (λ boards. (other : ℕ) → get nat_eq boards other ≡ in_place (slice_set places place (Some board))
      other)
  one_read held None (Some after) places place number board was at within same more none =
      absurd (none_some after (sym none))
  one_read held (Some before) (Some after) places place number board was at within same more none = λ boards is other.
      ap (λ (boards : IndexMap ℕ Board S). get nat_eq boards other) (sym (some_same after boards is))
      ∙ more before refl other
      ∙ elim (cases_Bool (nat_eq number other)) [
        | inl is ↦
            ap (λ (b : Bool). cond b (Some board) (get nat_eq before other)) is
            ∙ sym (get_or-set_at places place other (Some board) None (sym (at ∙ eqb-true number other is))
            (subst (λ (n : ℕ). n < length places) (sym at) within))
        | inr isnt ↦
            ap (λ (b : Bool). cond b (Some board) (get nat_eq before other)) isnt
            ∙ same before (sym was) other
            ∙ sym (get_or-set_other places place other (Some board) None
            (λ e. true≢false (sym (eq-eqb number other (sym (e ∙ at))) ∙ isnt)))
      ]
  one_read held before None places place number board was at within same more none = λ boards is other. absurd
      (none_some boards is)
