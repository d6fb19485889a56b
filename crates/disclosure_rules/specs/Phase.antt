-- How far a session has come.
use Rattle.std.specs.Prelude.{Bool, true, false}
use Rattle.disclosure_rules.specs.declared.phase.Phase.{Phase}
use Rattle.disclosure_rules.specs.declared.phase.Phase.TheVariants.{Running, Closed, Final}

-- whether boards are being played
abbrev pub is_running : Phase → Bool
is_running Running = true
is_running Closed = false
is_running Final = false
