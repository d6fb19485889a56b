-- Texts from people as HTML and XML 1.0 have them, between tags and in an attribute's quotes.
use Rattle.std.specs.Prelude.{ℕ, ◌∷◌, [], List, Bool, ◌||◌, nat_lt, nat_eq, if◌then◌else◌, codes}
use Rattle.std.specs.List.{flat_map}

-- a control character of ASCII, which XML hasn't but for blanks
abbrev pub is_control : ℕ → Bool
is_control byte = nat_lt byte 32 || nat_eq byte 127

-- a byte by its entity, where it would begin or end something; a control character as `?`; any other byte itself
abbrev pub escaped_byte : ℕ → List ℕ
escaped_byte byte =
    if nat_eq byte 38 then codes "&amp;"
    else if nat_eq byte 60 then codes "&lt;"
    else if nat_eq byte 62 then codes "&gt;"
    else if nat_eq byte 34 then codes "&quot;"
    else if nat_eq byte 39 then codes "&#39;"
    else if is_control byte then codes "?"
    else byte ∷ []

-- the text, byte by byte
unfoldable pub escaped : List ℕ → List ℕ
escaped text = flat_map escaped_byte text
