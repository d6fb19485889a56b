-- A line that is an object's text.
use Rattle.std.specs.Prelude.{◌≡◌, ℕ, ◌==◌, List, length, true, IsSome, Some}
use Rattle.std.specs.Str.Lossy.{utf8_valid_len}
use Rattle.serde_json.specs.Data.{Data}
use Rattle.serde_json.specs.Read.{read}
use Rattle.serde_json.specs.Find.{as_object}

-- the line is a text, and the text is this object
pub record IsObject (line : List ℕ) (d : Data) : Type 0 where
  pub utf8 : (utf8_valid_len line == length line) ≡ true
  pub reads : read line ≡ Some d
  pub members : IsSome (as_object d)
