-- Reading: a value, or why there is none.
use Rattle.std.specs.Prelude.{◌≡◌, Option, Some, None, Result, Ok, Err}
use Rattle.json_fields.specs.declared.request_fault.RequestFault.{RequestFault}
use Rattle.json_fields.specs.declared.request_fault.RequestFault.TheVariants.{
  TooLong,
  Malformed,
  UnknownRequest,
  BadField,
  OutOfMemory,
}

-- what has to be there
abbrev pub wanted : {A : Type 0} → Option A → Result A RequestFault
wanted None = Err BadField
wanted (Some x) = Ok x

-- a function that answered with the fault has read what reading gives, or memory was refused
abbrev pub Fails : {A : Type 0} → RequestFault → Result A RequestFault → Type 0
Fails TooLong read = read ≡ Err TooLong
Fails Malformed read = read ≡ Err Malformed
Fails UnknownRequest read = read ≡ Err UnknownRequest
Fails BadField read = read ≡ Err BadField
Fails OutOfMemory read = Unit {0}

-- what a function answered is what reading gives, unless memory was refused
abbrev pub Gives : {A : Type 0} → Result A RequestFault → Result A RequestFault → Type 0
Gives (Ok x) read = read ≡ Ok x
Gives (Err e) read = Fails e read
