-- What a writing that fails leaves.
use Rattle.std.specs.Prelude.{◌≡◌, ℕ, Option, List, ◌++◌}
use Rattle.std.specs.Io.KnownBytes.{Appends}

-- the writer holds a first part of the bytes, and no more
pub record WritesPart (old new : Option (List ℕ)) (bytes : List ℕ) : Type 0 where
  pub part : List ℕ
  pub missing : List ℕ
  pub split : bytes ≡ part ++ missing
  pub appended : Appends old new part
