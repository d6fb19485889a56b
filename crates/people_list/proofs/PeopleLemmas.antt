-- The people of rows, one after another.
use Rattle.std.proofs.Common.{List, [], ◌∷◌, ◌++◌, ℕ}
use Rattle.people_list.specs.declared.person.Person.{Person}
use Rattle.people_list.specs.Person.{IsPerson}
use Rattle.people_list.specs.People.{ArePeople}

-- one person more for one row more
pub one_more : (columns : List (List ℕ)) (rows : List (List (List ℕ))) (people : List Person) (row : List (List ℕ))
    (person : Person) → ArePeople columns rows people → IsPerson columns row person
    → ArePeople columns (rows ++ row ∷ []) (people ++ person ∷ [])
one_more columns [] [] row person are is = (is, tt)
one_more columns [] (other ∷ people) row person are is = absurd are
one_more columns (other ∷ rows) [] row person are is = absurd are
one_more columns (one ∷ rows) (other ∷ people) row person are is =
    (are.0, one_more columns rows people row person are.1 is)
