use Rattle.std.proofs.Common.{refl}
use Rattle.event_log.proofs.moment.clock_text.Goals as goal

pub returns : goal.returns
returns c = rw (c.two-hour.ensures, c.two-minute.ensures, c.two-second.ensures) refl
