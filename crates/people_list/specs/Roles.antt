-- The roles of a person, as a field names them.
use Rattle.std.specs.Prelude.{◌≡◌, ◌<◌, ℕ, List, [], ◌∷◌, ◌++◌, length}
use Rattle.std.specs.Char.{is_whitespace, is_not_whitespace}
use Rattle.std.specs.Str.{EmptyOrStartsWithPassing, NoCharPasses}
use Rattle.session_roles.specs.declared.role.Role.{Role}
use Rattle.session_roles.specs.Role.{role_name}

-- the text begins with this word, before which blanks alone stand; behind it a blank stands before the rest, or nothing is left
pub record BeginsWithWord (text word rest : List ℕ) : Type 0 where
  pub gap : List ℕ
  pub is : text ≡ gap ++ (word ++ rest)
  pub blank : NoCharPasses is_not_whitespace gap
  pub some : 0 < length word
  pub whole : NoCharPasses is_whitespace word
  pub behind : List ℕ
  pub ends : EmptyOrStartsWithPassing is_whitespace rest behind

-- the text is the names of these roles with blanks between them, and no more but blanks
abbrev pub NamesRoles : List ℕ → List Role → Type 0
NamesRoles text [] = NoCharPasses is_not_whitespace text
NamesRoles text (role ∷ roles) = (rest : List ℕ) × BeginsWithWord text (role_name role) rest × NamesRoles rest roles

-- ---- for private clauses

-- the text begins with the names of these roles, and this is left
abbrev pub BeginsWithRoles : List ℕ → List Role → List ℕ → Type 0
BeginsWithRoles text [] left = text ≡ left
BeginsWithRoles text (role ∷ roles) left = (rest : List ℕ) × BeginsWithWord text (role_name role) rest × BeginsWithRoles rest roles left
