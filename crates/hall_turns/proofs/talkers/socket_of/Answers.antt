use Rattle.std.proofs.Common.{◌∙◌, refl}
use Rattle.hall_turns.proofs.talkers.socket_of.Goals as goal

pub returns : goal.returns
returns g c =
    let fresh = c.from_partially_read.ensures.fresh in
    let kept = c.from_partially_read.ensures.limits in
    record {
      fresh = record {
        on_stream = refl;
        nothing_read = refl;
        nothing_waits = fresh.nothing_waits;
        has_role = fresh.has_role;
        is_active = fresh.is_active;
        no_fragments = fresh.no_fragments;
      };
      longest = kept.0 ∙ c.limits.ensures.message;
      longest_frame = kept.1 ∙ c.limits.ensures.frame;
    }
