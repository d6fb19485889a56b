-- A form makes nothing where its last member isn't as it should be.
use Rattle.std.proofs.Common.{◌≡◌, Bool, true, false, cond, Option, Some, None, Err, ap}
use Rattle.json_fields.specs.Form.{applied}
use Rattle.json_fields.specs.Reading.{wanted}
use Rattle.json_fields.specs.declared.request_fault.RequestFault.{RequestFault}
use Rattle.json_fields.specs.declared.request_fault.RequestFault.TheVariants.{BadField}

is_bad : {A : Type 0} (o : Option A) (fault : RequestFault) → wanted o ≡ Err fault → fault ≡ BadField
is_bad None fault h = cc
is_bad (Some x) fault h = absurd (cc)

pub without_last : {A B : Type 0} (alone : Bool) (make : Option (A → B)) (last : Option A) (fault : RequestFault)
    → wanted last ≡ Err fault → Err fault ≡ wanted (cond alone (applied make last) None)
without_last true None None fault h = ap Err (is_bad None fault h)
without_last true (Some make) None fault h = ap Err (is_bad None fault h)
without_last false make None fault h = ap Err (is_bad None fault h)
without_last alone make (Some x) fault h = absurd (cc)
