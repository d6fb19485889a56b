-- For private clauses: what reading one byte takes from a source, and of what may still be read.
use Rattle.std.specs.Prelude.{◌≡◌, ◌⊎◌, ℕ, ◌+◌, Option, Some, None, List, [], ◌∷◌}
use Rattle.std.specs.Io.KnownBytes.{Consumes, IsAtEnd}

-- a byte that is read is lost to the source, and counts; there is none only at the end
abbrev pub TakesByte : Option ℕ → Option (List ℕ) → Option (List ℕ) → ℕ → ℕ → Type 0
TakesByte None old new left_old left_new = Consumes old new [] × IsAtEnd new × (left_new ≡ left_old)
TakesByte (Some byte) old new left_old left_new = Consumes old new (byte ∷ []) × (left_new + 1 ≡ left_old)

-- the source failed, and no byte is taken
pub record FailsAtByte (fails : Type 0) (old new : Option (List ℕ)) (left_old left_new : ℕ) : Type 0 where
  pub failed : fails
  pub consumed : Consumes old new []
  pub uncounted : left_new ≡ left_old

-- a byte is taken where none may be read any more
pub record IsByteTooMany (old new : Option (List ℕ)) (left_old left_new : ℕ) : Type 0 where
  pub beyond : ℕ
  pub consumed : Consumes old new (beyond ∷ [])
  pub uncounted : left_new ≡ left_old
  pub full : left_new ≡ 0

-- why no byte is given, and none is missing
abbrev pub GivesNoByte : Type 0 → Option (List ℕ) → Option (List ℕ) → ℕ → ℕ → Type 0
GivesNoByte fails old new left_old left_new =
    FailsAtByte fails old new left_old left_new ⊎ IsByteTooMany old new left_old left_new
