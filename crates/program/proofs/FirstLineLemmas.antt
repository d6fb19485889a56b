-- Why a script's first line opens no session.
use Rattle.std.proofs.Common.{◌≡◌, ℕ, List, subst, sym}
use Rattle.std.specs.Prelude.{None}
use Rattle.opened_session.specs.Opened.{OpensNoneWith}
use Rattle.opened_session.specs.declared.opening_fault.OpeningFault.{OpeningFault}
use Rattle.opened_session.specs.declared.opening_fault.OpeningFault.TheVariants as unopened
use Rattle.program.specs.declared.fault.Fault.{Fault}
use Rattle.program.specs.FirstLine.{BeginsNone, fault_of_unopened}

-- the first line opens none for this fault
pub begins_none : (line : List ℕ) (fault : OpeningFault) (ended : Fault) → ended ≡ fault_of_unopened fault →
    OpensNoneWith None fault line → BeginsNone ended line
begins_none line fault ended is none = subst (λ f. BeginsNone f line) (sym is) (by fault none)
  where
    by : (fault : OpeningFault) → OpensNoneWith None fault line → BeginsNone (fault_of_unopened fault) line
    by (unopened.Session fault) none = none
    by (unopened.Opening cause) none = none
