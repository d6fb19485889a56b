-- The four parts of a value, as a reader keeps them.
use Rattle.std.specs.Prelude.{ℕ, List, [], ◌∷◌, Option, Some, None}
use Rattle.pbn_records.specs.declared.parts.FourParts.{FourParts}

-- the parts, if there are four
abbrev pub kept_parts : Option FourParts → Option (List (List ℕ))
kept_parts None = None
kept_parts (Some kept) = Some (kept.begin.now ∷ kept.left.now ∷ kept.opposite.now ∷ kept.right.now ∷ [])
