-- A person by the fields of a row.
use Rattle.std.specs.Prelude.{◌≡◌, ◌≤◌, ℕ, List, [], ◌∷◌, codes, Option, Some, None}
use Rattle.table_terms.specs.Pair.{pair_text}
use Rattle.table_terms.specs.Place.{place_letter}
use Rattle.disclosure_rules.specs.declared.seat.Seat.{Seat}
use Rattle.people_list.specs.Fields.{under_column}
use Rattle.people_list.specs.Roles.{NamesRoles}
use Rattle.people_list.specs.declared.person.Person.{Person}

-- the fields are those of this seat, or empty where there is none
abbrev pub IsSeatIn : List ℕ → List ℕ → Option Seat → Type 0
IsSeatIn pair place None = (pair ≡ []) × (place ≡ [])
IsSeatIn pair place (Some seat) =
    (pair ≡ pair_text seat.pair) × (place ≡ place_letter seat.place ∷ []) × (1 ≤ seat.pair.number)

-- the field is this text, or empty where there is none
abbrev pub IsTextIn : List ℕ → Option (List ℕ) → Type 0
IsTextIn field None = field ≡ []
IsTextIn field (Some text) = field ≡ text

-- what a row says of a person: each field stands under its own column's name
pub record IsPerson (columns : List (List ℕ)) (row : List (List ℕ)) (person : Person) : Type 0 where
  pub shown : under_column columns row (codes "name") ≡ person.shown
  pub seat : IsSeatIn (under_column columns row (codes "pair")) (under_column columns row (codes "place")) person.seat
  pub roles : NamesRoles (under_column columns row (codes "roles")) person.roles
  pub number : IsTextIn (under_column columns row (codes "number")) person.number
  pub sign_in : IsTextIn (under_column columns row (codes "sign_in")) person.sign_in
