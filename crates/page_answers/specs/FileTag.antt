-- The entity tag of a file (RFC 9110, section 8.8.3). That it is the SHA-256 of its bytes is this project's own.
use Rattle.std.specs.Prelude.{ℕ, List, ◌++◌, codes}
use Rattle.hex.specs.Hex.{encode_lower}
use Rattle.sha2.specs.Sha256.{sha256}

-- the digits of the bytes' SHA-256, in quotes
abbrev pub file_tag : List ℕ → List ℕ
file_tag bytes = codes "\"" ++ (encode_lower (sha256 bytes) ++ codes "\"")
