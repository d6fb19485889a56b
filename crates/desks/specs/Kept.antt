-- What a crash leaves of what desks publish. `Left` are the publications that the next start may find.
use Rattle.std.specs.Prelude.{◌≡◌, ◌⊎◌, ℕ, Bool, false, List, [], ◌∷◌, ◌++◌}
use mathlib.Core.List.{IsPrefix}
use Rattle.session_state.specs.SessionState.{SessionState}
use Rattle.session_commands.specs.declared.entry.Entry.{Entry}
use Rattle.displays.specs.Copies.{IsPublished}

-- a start finds what was published; or, where the store has shut, maybe one publication more, which the session allows
abbrev pub IsLeftAfter : SessionState → List (List Entry) → Bool → List (List Entry) → Type 0
IsLeftAfter opening published is_open found =
    (found ≡ published)
    ⊎ ((is_open ≡ false) × (more : List Entry) × (found ≡ published ++ more ∷ []) × IsPublished opening found)

-- while no wrong answer of the disk was taken as true, that holds of whatever a crash leaves
pub record IsKeptBy (opening : SessionState) (published : List (List Entry)) (doubt : ℕ) (is_open : Bool)
    (Left : List (List Entry) → Type 0) : Type 0 where
  pub left : doubt ≡ 0 → (found : List (List Entry)) → Left found → IsLeftAfter opening published is_open found

-- while no wrong answer of the disk was taken as true, whatever a crash leaves is just these publications
pub record LeavesJust (published : List (List Entry)) (doubt : ℕ) (Left : List (List Entry) → Type 0) : Type 0 where
  pub left : doubt ≡ 0 → (found : List (List Entry)) → Left found → found ≡ published

-- while no wrong answer of the disk was taken as true, whatever a crash leaves begins with these publications, and the
-- session allows all of it
pub record LeavesAll (opening : SessionState) (seen : List (List Entry)) (doubt : ℕ)
    (Left : List (List Entry) → Type 0) : Type 0 where
  pub begins : doubt ≡ 0 → (found : List (List Entry)) → Left found → IsPrefix seen found
  pub published : doubt ≡ 0 → (found : List (List Entry)) → Left found → IsPublished opening found
