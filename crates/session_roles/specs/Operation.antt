-- The operations of a session, and the roles that permit them (core RBAC of INCITS 359-2012).
use Rattle.std.specs.Prelude.{ℕ, Bool, true, ◌&&◌, nat_eq, List, codes}
use Rattle.std.specs.List.{list_any}
use Rattle.session_roles.specs.declared.edition.Edition.{Edition}
use Rattle.session_roles.specs.declared.role.Role.{Role}
use Rattle.session_roles.specs.declared.operation.Operation.{Operation}
use Rattle.session_roles.specs.declared.operation.Operation.TheVariants.{
  Enter,
  Confirm,
  Correct,
  Rule,
  Void,
  Hold,
  Release,
  Seat,
  Unseat,
  NextRound,
  Close,
  Finalise,
  Audit,
  AddUser,
  Assign,
  Deassign,
  AddInheritance,
  DeleteInheritance,
  Embargo,
  Lift,
  Rename,
}
use Rattle.session_roles.specs.Edition.{is_second}
use Rattle.session_roles.specs.Role.{roles, has}
use Rattle.session_roles.specs.RoleRow.{role_row}

-- an operation's place in their order, counted from 0
abbrev pub operation_number : Operation → ℕ
operation_number Enter = 0
operation_number Confirm = 1
operation_number Correct = 2
operation_number Rule = 3
operation_number Void = 4
operation_number Hold = 5
operation_number Release = 6
operation_number Seat = 7
operation_number Unseat = 8
operation_number NextRound = 9
operation_number Close = 10
operation_number Finalise = 11
operation_number Audit = 12
operation_number AddUser = 13
operation_number Assign = 14
operation_number Deassign = 15
operation_number AddInheritance = 16
operation_number DeleteInheritance = 17
operation_number Embargo = 18
operation_number Lift = 19
operation_number Rename = 20

-- how an operation is called, in a message, a journal, an audit and a log alike
abbrev pub operation_name : Operation → List ℕ
operation_name Enter = codes "Enter"
operation_name Confirm = codes "Confirm"
operation_name Correct = codes "Correct"
operation_name Rule = codes "Rule"
operation_name Void = codes "Void"
operation_name Hold = codes "Hold"
operation_name Release = codes "Release"
operation_name Seat = codes "Seat"
operation_name Unseat = codes "Unseat"
operation_name NextRound = codes "NextRound"
operation_name Close = codes "Close"
operation_name Finalise = codes "Finalise"
operation_name Audit = codes "Audit"
operation_name AddUser = codes "AddUser"
operation_name Assign = codes "Assign"
operation_name Deassign = codes "Deassign"
operation_name AddInheritance = codes "AddInheritance"
operation_name DeleteInheritance = codes "DeleteInheritance"
operation_name Embargo = codes "Embargo"
operation_name Lift = codes "Lift"
operation_name Rename = codes "Rename"

-- whether an edition knows the operation: the first one knows no embargo and no names to show
abbrev pub is_operation_of : Edition → Operation → Bool
is_operation_of edition Enter = true
is_operation_of edition Confirm = true
is_operation_of edition Correct = true
is_operation_of edition Rule = true
is_operation_of edition Void = true
is_operation_of edition Hold = true
is_operation_of edition Release = true
is_operation_of edition Seat = true
is_operation_of edition Unseat = true
is_operation_of edition NextRound = true
is_operation_of edition Close = true
is_operation_of edition Finalise = true
is_operation_of edition Audit = true
is_operation_of edition AddUser = true
is_operation_of edition Assign = true
is_operation_of edition Deassign = true
is_operation_of edition AddInheritance = true
is_operation_of edition DeleteInheritance = true
is_operation_of edition Embargo = is_second edition
is_operation_of edition Lift = is_second edition
is_operation_of edition Rename = is_second edition

-- whether two operations are one
abbrev pub same_operation : Operation → Operation → Bool
same_operation a b = nat_eq (operation_number a) (operation_number b)

-- the operations that a role itself permits
abbrev pub operations_of : Role → List Operation
operations_of role = (role_row role).operations

-- whether a role itself permits an operation
abbrev pub permits : Role → Operation → Bool
permits role operation = list_any (λ permitted. same_operation permitted operation) (operations_of role)

-- whether one of these roles permits an operation
abbrev pub one_permits : List Role → Operation → Bool
one_permits among operation = list_any (λ role. has among role && permits role operation) roles
