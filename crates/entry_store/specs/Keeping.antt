-- What keeping entries does to what a crash leaves. `Left` are the publications that the next start may find.
use Rattle.std.specs.Prelude.{◌≡◌, ◌⊎◌, Bool, false, List, [], ◌∷◌, ◌++◌}
use Rattle.session_commands.specs.declared.entry.Entry.{Entry}
use Rattle.entry_store.specs.declared.keep_fault.KeepFault.{KeepFault}
use Rattle.entry_store.specs.declared.keep_fault.KeepFault.TheVariants.{NotKept, Unsure}

-- what a crash leaves is what one left before, with one publication more
abbrev pub LeavesOneMore : (List (List Entry) → Type 0) → List Entry → (List (List Entry) → Type 0) → Type 0
LeavesOneMore Before entries After =
    (found : List (List Entry)) → After found →
    (kept : List (List Entry)) × Before kept × (found ≡ kept ++ entries ∷ [])

-- what a crash leaves is what one left before
abbrev pub LeavesAsBefore : (List (List Entry) → Type 0) → (List (List Entry) → Type 0) → Type 0
LeavesAsBefore Before After = (found : List (List Entry)) → After found → Before found

-- what a crash leaves where entries weren't kept. Where it isn't known, nothing more is taken, and a crash leaves what one
-- left before, or that with these entries as one publication more
abbrev pub LeavesNoneOrOne : KeepFault → Bool → (List (List Entry) → Type 0) → List Entry
    → (List (List Entry) → Type 0) → Type 0
LeavesNoneOrOne NotKept is_open Before entries After = LeavesAsBefore Before After
LeavesNoneOrOne Unsure is_open Before entries After =
    (is_open ≡ false)
    × ((found : List (List Entry)) → After found →
    Before found ⊎ ((kept : List (List Entry)) × Before kept × (found ≡ kept ++ entries ∷ [])))
