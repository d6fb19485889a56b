-- How a fault of a session object is called on standard error.
use Rattle.std.specs.Prelude.{ℕ, List, ◌++◌, Option, None, Some, codes, decimal}
use Rattle.mitchell.specs.declared.movement_error.MovementError.TheVariants.{BadTables, BadRounds, BadSets, BadPair}
use Rattle.movement.specs.declared.movement_fault.MovementFault.{MovementFault}
use Rattle.movement.specs.declared.movement_fault.MovementFault.TheVariants.{
  OutOfRange,
  TableTwice,
  SetAtTableAgain,
  PairTwice,
  SetAgain,
  OpponentsAgain,
  SharedByTooMany,
}
use Rattle.session_object.specs.declared.session_fault.SessionFault.{SessionFault}
use Rattle.session_object.specs.declared.session_fault.SessionFault.TheVariants.{
  TooLong,
  Malformed,
  BadField,
  Movement,
  Row,
  Deals,
  OutOfMemory,
}

-- how the fault of a row is called
abbrev pub row_fault_name : MovementFault → List ℕ
row_fault_name OutOfRange = codes "OutOfRange"
row_fault_name TableTwice = codes "TableTwice"
row_fault_name SetAtTableAgain = codes "SetAtTableAgain"
row_fault_name PairTwice = codes "PairTwice"
row_fault_name SetAgain = codes "SetAgain"
row_fault_name OpponentsAgain = codes "OpponentsAgain"
row_fault_name SharedByTooMany = codes "SharedByTooMany"

-- how a fault is called, that of a row with the row's number; nothing is said of those of the boards
abbrev pub fault_output : SessionFault → Option (List ℕ)
fault_output TooLong = Some (codes "TooLong")
fault_output Malformed = Some (codes "Malformed")
fault_output BadField = Some (codes "BadField")
fault_output (Movement BadTables) = Some (codes "BadTables")
fault_output (Movement BadRounds) = Some (codes "BadRounds")
fault_output (Movement BadSets) = Some (codes "BadSets")
fault_output (Movement BadPair) = Some (codes "BadPair")
fault_output (Row fault number) = Some (row_fault_name fault ++ (codes "(" ++ (decimal number ++ codes ")")))
fault_output (Deals error) = None
fault_output OutOfMemory = Some (codes "OutOfMemory")
