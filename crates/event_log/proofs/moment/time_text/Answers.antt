use Rattle.std.proofs.Common.{refl}
use Rattle.event_log.proofs.moment.time_text.Goals as goal

pub returns : goal.returns
returns c = record {
  date = c.args.date;
  day = c.requires;
  is = rw (
    c.in_ok-extend_from_slice-3.ensures.items,
    c.in_ok-extend_from_slice-2.ensures.items,
    c.in_ok-extend_from_slice.ensures.items,
    c.in_ok-text.ensures.items,
    c.date_text.ensures,
    c.clock_text.ensures,
  ) refl;
}
