-- Texts in a page.
use Rattle.std.specs.Prelude.{ℕ, List, [], ◌∷◌, ◌++◌, nat_eq, codes, encode_utf8, if◌then◌else◌}

-- a character as it stands in a page: none of the four that could end a text or an attribute in double quotes, or begin
-- something else there, stands as itself
abbrev pub escaped_sign : ℕ → List ℕ
escaped_sign sign =
    if nat_eq sign 38
    then codes "&amp;"
    else if nat_eq sign 60
    then codes "&lt;"
    else if nat_eq sign 62 then codes "&gt;" else if nat_eq sign 34 then codes "&quot;" else encode_utf8 sign

-- characters, one after another
abbrev pub escaped_signs : List ℕ → List ℕ
escaped_signs [] = []
escaped_signs (sign ∷ signs) = escaped_sign sign ++ escaped_signs signs
