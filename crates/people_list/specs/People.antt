-- A list of people by its text.
use Rattle.std.specs.Prelude.{ℕ, List, [], ◌∷◌}
use Rattle.csv.specs.Reading.{AreRecords, default_config, strip_bom}
use Rattle.csv.specs.declared.parser.State.TheVariants as st
use Rattle.people_list.specs.Person.{IsPerson}
use Rattle.people_list.specs.declared.person.Person.{Person}

-- each row's person is the one in its place
abbrev pub ArePeople : List (List ℕ) → List (List (List ℕ)) → List Person → Type 0
ArePeople columns [] [] = Unit {0}
ArePeople columns [] (person ∷ people) = ⊥
ArePeople columns (row ∷ rows) [] = ⊥
ArePeople columns (row ∷ rows) (person ∷ people) = IsPerson columns row person × ArePeople columns rows people

-- the text's first record names the columns, and each other one is a person's, in the order of the people
pub record IsPeopleList (text : List ℕ) (persons : List Person) : Type 0 where
  pub columns : List (List ℕ)
  pub rows : List (List (List ℕ))
  pub are : AreRecords default_config st.StartRecord (strip_bom text) (columns ∷ rows)
  pub people : ArePeople columns rows persons
