-- What a script's first line comes to: the session that it opens, or why it opens none.
use Rattle.std.specs.Prelude.{ℕ, List, None}
use Rattle.session_state.specs.SessionState.{SessionState}
use Rattle.opened_session.specs.Opened.{OpensWith, OpensNoneWith}
use Rattle.opened_session.specs.declared.opening_fault.OpeningFault.{OpeningFault}
use Rattle.opened_session.specs.declared.opening_fault.OpeningFault.TheVariants as unopened
use Rattle.program.specs.declared.fault.Fault.{Fault}
use Rattle.program.specs.declared.fault.Fault.TheVariants.{Session, Opening, Input, Output, OutOfMemory}

-- a script's first line has its boards in it
abbrev pub Opens : List ℕ → SessionState → Type 0
Opens line opening = OpensWith None line opening

-- the first line opens some session
abbrev pub OpensOne : List ℕ → Type 0
OpensOne line = (opening : SessionState) × Opens line opening

-- why no run begins with a first line: it opens no session; or it opens one, which there is no memory to keep
abbrev pub BeginsNone : Fault → List ℕ → Type 0
BeginsNone (Session fault) line = OpensNoneWith None (unopened.Session fault) line
BeginsNone (Opening cause) line = OpensNoneWith None (unopened.Opening cause) line
BeginsNone Input line = ⊥
BeginsNone Output line = ⊥
BeginsNone OutOfMemory line = OpensOne line

-- ---- for private clauses

-- the fault of a script whose first line opens no session
abbrev pub fault_of_unopened : OpeningFault → Fault
fault_of_unopened (unopened.Session fault) = Session fault
fault_of_unopened (unopened.Opening cause) = Opening cause
