use Rattle.std.proofs.Common.{refl}
use Rattle.event_log.proofs.moment.date_text.Goals as goal

pub returns : goal.returns
returns c =
    rw (c.two-century.ensures, c.two-year.ensures, c.two-month.ensures, c.two-day.ensures, c.year_of-year.ensures.value) refl
