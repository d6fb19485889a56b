-- What a crash leaves of what desks publish.
use Rattle.std.proofs.Common.{◌≡◌, ℕ, Bool, true, false, List, [], ◌∷◌, ◌++◌, ◌⊎◌, inl, inr, refl, ap, sym, subst, ◌∙◌}
use mathlib.Core.List.{IsPrefix}
use Rattle.session_state.specs.SessionState.{SessionState}
use Rattle.session_commands.specs.declared.entry.Entry.{Entry}
use Rattle.entry_store.specs.declared.keep_fault.KeepFault.{KeepFault}
use Rattle.entry_store.specs.declared.keep_fault.KeepFault.TheVariants.{NotKept, Unsure}
use Rattle.entry_store.specs.Keeping.{LeavesOneMore, LeavesAsBefore, LeavesNoneOrOne}
use Rattle.displays.specs.Copies.{IsPublished}
use Rattle.history.proofs.PrefixLemmas.{prefix_trans}
use Rattle.desks.specs.Kept.{IsLeftAfter, IsKeptBy, LeavesJust, LeavesAll}

-- of an open store nothing more than what was published is left
pub left_of_open : (opening : SessionState) (published found : List (List Entry)) (is_open : Bool) → is_open ≡ true →
    IsLeftAfter opening published is_open found → found ≡ published
left_of_open opening published found is_open shown (inl same) = same
left_of_open opening published found is_open shown (inr (shut, more, is, allowed)) = absurd (cc (shown, shut))

module _ (opening : SessionState) (published : List (List Entry)) (more : List Entry) (doubt later : ℕ)
    (Before After : List (List Entry) → Type 0) where
  -- what a store leaves that was open and has kept a publication more
  pub kept_more : (is_open : Bool) → (later ≡ 0 → doubt ≡ 0) → IsKeptBy opening published doubt true Before →
      (later ≡ 0 → LeavesOneMore Before more After) → IsKeptBy opening (published ++ more ∷ []) later is_open After
  kept_more is_open clean kept leaves = record {
    left = λ none found left.
        let (before, was, is) = leaves none found left in
        let same : before ≡ published = left_of_open opening published before true refl
        (kept.left (clean none) before was) in
        inl (is ∙ ap (λ (l : List (List Entry)). l ++ more ∷ []) same);
  }

  left_by_either : (is_open : Bool) (found : List (List Entry)) →
      ((before : List (List Entry)) → Before before → before ≡ published) → IsPublished opening (published ++ more ∷ []) →
      is_open ≡ false →
      Before found ⊎ ((kept : List (List Entry)) × Before kept × (found ≡ kept ++ more ∷ [])) →
      IsLeftAfter opening published is_open found
  left_by_either is_open found just allowed shut (inl was) = inl (just found was)
  left_by_either is_open found just allowed shut (inr (before, was, is)) =
      let all : found ≡ published ++ more ∷ [] = is ∙ ap (λ (l : List (List Entry)). l ++ more ∷ []) (just before was) in
      inr (shut, more, all, subst (IsPublished opening) (sym all) allowed)

  -- what one leaves that was open and has not kept it
  pub kept_none_or_one : (fault : KeepFault) (is_open : Bool) → (later ≡ 0 → doubt ≡ 0) →
      IsKeptBy opening published doubt true Before → IsPublished opening (published ++ more ∷ []) →
      (later ≡ 0 → LeavesNoneOrOne fault is_open Before more After) → IsKeptBy opening published later is_open After
  kept_none_or_one NotKept is_open clean kept allowed leaves = record {
    left = λ none found left. inl (left_of_open opening published found true refl
        (kept.left (clean none) found (leaves none found left)));
  }
  kept_none_or_one Unsure is_open clean kept allowed leaves = record {
    left = λ none found left.
        let (shut, either) = leaves none in
        left_by_either is_open found
        (λ before was. left_of_open opening published before true refl (kept.left (clean none) before was)) allowed shut
        (either found left);
  }

  -- a store of which it isn't known whether it keeps a publication is shut
  pub unsure_is_shut : (fault : KeepFault) (is_open : Bool) → fault ≡ Unsure →
      LeavesNoneOrOne fault is_open Before more After → is_open ≡ false
  unsure_is_shut NotKept is_open is leaves = absurd (cc is)
  unsure_is_shut Unsure is_open is leaves = leaves.0

  -- of a publication that isn't kept nothing is left
  pub not_kept_is_gone : (fault : KeepFault) (is_open : Bool) → (fault ≡ Unsure → ⊥) →
      LeavesNoneOrOne fault is_open Before more After → LeavesAsBefore Before After
  not_kept_is_gone NotKept is_open other leaves = leaves
  not_kept_is_gone Unsure is_open other leaves = absurd (other refl)

-- a store that is open wherever it answers that nothing is kept is open unless that isn't known
pub open_unless_unsure : (fault : KeepFault) (is_open : Bool) → (fault ≡ NotKept → is_open ≡ true) → (fault ≡ Unsure → ⊥) →
    is_open ≡ true
open_unless_unsure NotKept is_open goes_on other = goes_on refl
open_unless_unsure Unsure is_open goes_on other = absurd (other refl)

-- an open store leaves just what is published
pub kept_open : (opening : SessionState) (published : List (List Entry)) (doubt : ℕ) (is_open : Bool)
    (Left : List (List Entry) → Type 0) → IsKeptBy opening published doubt is_open Left → is_open ≡ true →
    LeavesJust published doubt Left
kept_open opening published doubt is_open Left kept shown = record {
  left = λ none found left. left_of_open opening published found is_open shown (kept.left none found left);
}

-- and every store leaves all that was seen of it
begins_left : (opening : SessionState) (seen published found : List (List Entry)) (is_open : Bool) →
    IsPrefix seen published → IsLeftAfter opening published is_open found → IsPrefix seen found
begins_left opening seen published found is_open begins (inl same) = subst (IsPrefix seen) (sym same) begins
begins_left opening seen published found is_open begins (inr (shut, more, is, allowed)) =
    subst (IsPrefix seen) (sym is) (prefix_trans seen published (published ++ more ∷ []) begins (more ∷ [], refl))

allowed_left : (opening : SessionState) (published found : List (List Entry)) (is_open : Bool) →
    IsPublished opening published → IsLeftAfter opening published is_open found → IsPublished opening found
allowed_left opening published found is_open allowed (inl same) = subst (IsPublished opening) (sym same) allowed
allowed_left opening published found is_open allowed (inr (shut, more, is, all)) = all

pub kept_seen : (opening : SessionState) (seen published : List (List Entry)) (doubt : ℕ) (is_open : Bool)
    (Left : List (List Entry) → Type 0) → IsKeptBy opening published doubt is_open Left → IsPrefix seen published →
    IsPublished opening published → LeavesAll opening seen doubt Left
kept_seen opening seen published doubt is_open Left kept begins allowed = record {
  begins = λ none found left. begins_left opening seen published found is_open begins (kept.left none found left);
  published = λ none found left. allowed_left opening published found is_open allowed (kept.left none found left);
}

-- a store that leaves just what is published keeps it
pub kept_just : (opening : SessionState) (published : List (List Entry)) (doubt : ℕ) (is_open : Bool)
    (Left : List (List Entry) → Type 0) → LeavesJust published doubt Left → IsKeptBy opening published doubt is_open Left
kept_just opening published doubt is_open Left just = record { left = λ none found left. inl (just.left none found left) }
