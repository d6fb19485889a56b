-- A row for each role, in their order: what is known of it whatever the session's state is.
use Rattle.std.specs.Prelude.{ℕ, List, [], ◌∷◌, codes}
use Rattle.session_roles.specs.declared.edition.Edition.{Edition}
use Rattle.session_roles.specs.declared.edition.Edition.TheVariants.{First, Second}
use Rattle.session_roles.specs.declared.role.Role.{Role}
use Rattle.session_roles.specs.declared.role.Role.TheVariants.{
  Member,
  Spectator,
  Contestant,
  Scorer,
  Director,
  Administrator,
  Commentator,
}
use Rattle.session_roles.specs.declared.operation.Operation.{Operation}
use Rattle.session_roles.specs.declared.operation.Operation.TheVariants.{
  Enter,
  Confirm,
  Correct,
  Rule,
  Void,
  Hold,
  Release,
  Seat,
  Unseat,
  NextRound,
  Close,
  Finalise,
  Audit,
  AddUser,
  Assign,
  Deassign,
  AddInheritance,
  DeleteInheritance,
  Embargo,
  Lift,
  Rename,
}

-- a row: how the role is called, the edition that it came with, the operations that it permits by itself, and the roles
-- that it inherits in a new session (of INCITS 359-2012 the permission assignment, and the hierarchy's first pairs)
pub record RoleRow : Type 0 where
  pub name : List ℕ
  pub since : Edition
  pub operations : List Operation
  pub juniors : List Role

abbrev row : List ℕ → Edition → List Operation → List Role → RoleRow
row name since operations juniors =
    record { name = name; since = since; operations = operations; juniors = juniors }

abbrev pub role_row : Role → RoleRow
role_row Member = row (codes "Member") First [] []
role_row Spectator = row (codes "Spectator") First [] (Member ∷ [])
role_row Contestant = row (codes "Contestant") First [] (Member ∷ [])
role_row Scorer = row (codes "Scorer") First (Enter ∷ Confirm ∷ []) (Member ∷ [])
role_row Director =
    row (codes "Director") First
    (Correct
    ∷ Rule
    ∷ Void
    ∷ Hold
    ∷ Release
    ∷ Seat
    ∷ Unseat
    ∷ NextRound
    ∷ Close
    ∷ Finalise
    ∷ Audit
    ∷ Embargo
    ∷ Lift
    ∷ [])
    (Scorer ∷ Spectator ∷ [])
role_row Administrator =
    row (codes "Administrator") First
    (AddUser ∷ Assign ∷ Deassign ∷ AddInheritance ∷ DeleteInheritance ∷ Audit ∷ Rename ∷ [])
    (Member ∷ [])
role_row Commentator = row (codes "Commentator") Second [] (Spectator ∷ [])
