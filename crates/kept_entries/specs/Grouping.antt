-- ---- for private clauses: entries are put together as publications, one row after another.
use Rattle.std.specs.Prelude.{◌≡◌, ◌⊎◌, ◌<◌, ◌≤◌, ℕ, ◌+◌, List, [], ◌∷◌, ◌++◌, length}
use Rattle.session_commands.specs.declared.entry.Entry.{Entry}

-- before a row with the number of a publication: it is one more of the last one, or that has all its entries
abbrev pub BeginsNext : ℕ → List (List Entry) → List Entry → List (List Entry) → List Entry → Type 0
BeginsNext number published last new rest =
    ((number ≤ length published + 1 ⊎ (last ≡ [])) × (new ≡ published) × (rest ≡ last))
    ⊎ ((length published + 1 < number) × (0 < length last) × (new ≡ published ++ last ∷ []) × (rest ≡ []))
