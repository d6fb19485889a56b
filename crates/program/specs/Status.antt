-- The statuses with which the program ends.
use Rattle.std.specs.Prelude.{◌≡◌, ℕ, ◌⊎◌}
use Rattle.session_object.specs.declared.session_fault.SessionFault.TheVariants as session
use Rattle.session_opening.specs.declared.opening_refusal.OpeningRefusal.TheVariants as refusal
use Rattle.program.specs.declared.fault.Fault.{Fault}
use Rattle.program.specs.declared.fault.Fault.TheVariants.{Session, Opening, Input, Output, OutOfMemory}

-- own: 0 where the script was answered whole, the clients were served or help was given, 1 where the session wasn't
-- opened, 2 where the words aren't understood, 3 where something couldn't be read or written, 4 where there was no
-- memory
abbrev pub IsStatus : ℕ → Type 0
IsStatus status = (status ≡ 0) ⊎ (status ≡ 1) ⊎ (status ≡ 2) ⊎ (status ≡ 3) ⊎ (status ≡ 4)

-- the status after a fault
abbrev pub status_of : Fault → ℕ
status_of (Session session.OutOfMemory) = 4
status_of (Session fault) = 1
status_of (Opening refusal.OutOfMemory) = 4
status_of (Opening cause) = 1
status_of Input = 3
status_of Output = 3
status_of OutOfMemory = 4
