-- How many may still be let in, as connections are accepted, let in and ended.
use Rattle.std.proofs.Common.{◌≡◌, ◌+◌, ◌-◌, ◌≤◌, ℕ, Bool, true, false, List, [], ◌∷◌, Option, Some, None, is_some, count_by, cond, if◌then◌else◌, arith, refl, sym, le_refl, ◌∙◌}
use Rattle.std.proofs.lemmas.List.Sums.{sum_by-cons}
use Rattle.std.specs.Borrow.{MutBor}
use Rattle.slab.specs.Slab.{slab_len, RetainsFrom}
use Rattle.hall_threads.specs.Askers.{LeavesFewer}
use Rattle.hall_threads.specs.declared.askers.Askers.{Askers}

-- where some values are kept, there are no more than before
module _ {T F : Type 0} (step : F → ℕ → MutBor T → Bool → MutBor T → F → Type 0) where
  len-kept : (keep : Bool) (old new : T) (rest later : List (Option T)) →
      count_by is_some later ≤ count_by is_some rest →
      count_by is_some ((if keep then Some new else None) ∷ later) ≤ count_by is_some (Some old ∷ rest)
  len-kept true old new rest later below =
      let kept = sum_by-cons (λ slot. cond (is_some slot) 1 0) (Some new) later in
      let before = sum_by-cons (λ slot. cond (is_some slot) 1 0) (Some old) rest in
      rw (kept, before) (omega arith)
  len-kept false old new rest later below =
      let before = sum_by-cons (λ slot. cond (is_some slot) 1 0) (Some old) rest in
      rw before (omega arith)

  pub len-retained : (f : F) (key : ℕ) (slots kept : List (Option T)) → RetainsFrom step f key slots kept →
      count_by is_some kept ≤ count_by is_some slots
  len-retained f key [] kept none = rw none (le_refl 0)
  len-retained f key (None ∷ rest) kept (later, same, retained) = rw same (len-retained f (key + 1) rest later retained)
  len-retained f key (Some old ∷ rest) kept (keep, new, next, called, later, same, retained) =
      rw same (len-kept keep old new rest later (len-retained next (key + 1) rest later retained))

module _ {S : Type 0} where
  -- as many may still be let in, where nothing changed
  pub leaves_same : (askers after : Askers S) → after ≡ askers → LeavesFewer 0 askers after
  leaves_same askers after same = rw same (record { same = refl; left = λ _. omega arith })

  pub leaves_none : (askers : Askers S) → LeavesFewer 0 askers askers
  leaves_none askers = leaves_same askers askers refl

  -- no more, where no more ask
  pub leaves_asking : (askers after : Askers S) → after.connections ≡ askers.connections →
      after.accepted ≡ askers.accepted → slab_len after.asking ≤ slab_len askers.asking → LeavesFewer 0 askers after
  leaves_asking askers after same accepted fewer =
      record { same = same; left = λ _. within _ _ _ _ _ _ same accepted fewer }
    where
      within : (connections connections_after accepted accepted_after asking asking_after : ℕ) →
          connections_after ≡ connections → accepted_after ≡ accepted → asking_after ≤ asking →
          0 + (asking_after + (connections_after - accepted_after)) ≤ asking + (connections - accepted)
      within connections connections_after accepted accepted_after asking asking_after same accepted_same fewer =
          rw (same, accepted_same) (omega arith)

  -- fewer, and then fewer still
  pub leaves_on : {fewer fewer_later : ℕ} {askers middle after : Askers S} → LeavesFewer fewer askers middle →
      LeavesFewer fewer_later middle after → LeavesFewer (fewer + fewer_later) askers after
  leaves_on {fewer} {fewer_later} {askers} {middle} {after} first later =
      record {
        same = later.same ∙ first.same;
        left = λ some. both _ _ _ (first.left some) (later.left (λ none. some (sym first.same ∙ none)));
      }
    where
      both : (start between end : ℕ) → fewer + between ≤ start → fewer_later + end ≤ between →
          fewer + fewer_later + end ≤ start
      both start between end first_left later_left = omega arith
