-- What is there where reading gives it.
use Rattle.std.proofs.Common.{◌≡◌, Option, Some, None, Ok}
use Rattle.json_fields.specs.Reading.{wanted}

pub is_there : {A : Type 0} (o : Option A) (x : A) → wanted o ≡ Ok x → o ≡ Some x
is_there None x h = absurd (cc)
is_there (Some y) x h = cc
