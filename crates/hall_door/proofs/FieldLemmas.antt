-- Whether a field of a request has a value that is such.
use Rattle.std.proofs.Common.{rules, ◌≡◌, ◌↔◌, IsTrue, ℕ, Bool, false, List, Option, Some, None}
use Rattle.http_header.specs.FieldValue.{FieldValue}
use Rattle.hall_door.specs.SessionRequest.{HasValue}

-- there is none
pub none_has : (found : Option FieldValue) (Is : List ℕ → Type 0) → found ≡ None → IsTrue false ↔ HasValue found Is
none_has None Is is = search rules
none_has (Some value) Is is = search rules

-- there is one, and a test of it answers whether it is
pub some_has : (found : Option FieldValue) (value : FieldValue) (test : Bool) (Is : List ℕ → Type 0) →
    found ≡ Some value → IsTrue test ↔ Is value.bytes → IsTrue test ↔ HasValue found Is
some_has found value test Is is tests = rw is tests
