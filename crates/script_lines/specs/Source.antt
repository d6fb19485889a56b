-- What is read from a source of bytes.
use Rattle.std.specs.Prelude.{ℕ, Option, Some, None, List, [], ◌∷◌}
use Rattle.std.specs.Io.KnownBytes.{Consumes, Keeps, IsAtEnd}

-- a byte that is read is lost to the source; there is none only at the end
abbrev pub GivesByte : Option ℕ → Option (List ℕ) → Option (List ℕ) → Type 0
GivesByte None old new = Keeps old new × IsAtEnd new
GivesByte (Some byte) old new = Consumes old new (byte ∷ [])
