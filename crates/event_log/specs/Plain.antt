-- own: a name as a log has it.
use Rattle.std.specs.Prelude.{ℕ, List, ◌&&◌, if◌then◌else◌, nat_le, map}

-- a printed character of ASCII, and no blank, or else a `?`
abbrev pub plain_byte : ℕ → ℕ
plain_byte byte = if nat_le 33 byte && nat_le byte 126 then byte else 63

-- byte by byte
unfoldable pub plain : List ℕ → List ℕ
plain name = map plain_byte name
