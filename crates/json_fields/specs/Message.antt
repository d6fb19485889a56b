-- Members of many messages: whose a message is, from which version on an answer is wanted, of which table and board,
-- and who declares in what.
use Rattle.std.specs.Prelude.{◌≡◌, ℕ, List, [], ◌∷◌, codes, Option, Some, None}
use Rattle.serde_json.specs.Data.{Data}
use Rattle.table_terms.specs.declared.place.Place.{Place}
use Rattle.table_terms.specs.declared.strain.Strain.{Strain}
use Rattle.table_terms.specs.Place.{place_letter}
use Rattle.table_terms.specs.Strain.{strain_letter}
use Rattle.json_fields.specs.Form.{Member}
use Rattle.json_fields.specs.Field.{whole, numbered, called, named}
use Rattle.json_fields.specs.Letter.{place_named, strain_named}

-- a table's number, and a board's
abbrev pub table : Member ℕ
table = numbered (codes "table")

abbrev pub board : Member ℕ
board = numbered (codes "board")

-- who declares, and in what
abbrev pub declarer : Member Place
declarer = named (codes "by") place_named (λ place. place_letter place ∷ [])

abbrev pub strain : Member Strain
strain = named (codes "strain") strain_named (λ x. strain_letter x ∷ [])

-- the user in whose name a message is
abbrev pub user : Member (List ℕ)
user = called (codes "as")

-- ---- from which version on an answer is wanted: any, where it is left out

-- the whole number that stands there, or 0 where nothing does
abbrev pub whole_or_zero : Option Data → Option ℕ
whole_or_zero None = Some 0
whole_or_zero (Some d) = whole d

-- what stands there is this number, or it is 0 and nothing does
abbrev pub IsSince : Option Data → ℕ → Type 0
IsSince None n = n ≡ 0
IsSince (Some d) n = whole d ≡ Some n

-- the least version that will do
abbrev pub since : Member ℕ
since = record { name = codes "since"; value = whole_or_zero; Is = IsSince }
