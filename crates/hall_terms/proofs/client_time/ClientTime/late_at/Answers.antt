use Rattle.std.proofs.Common.{◌∙◌}
use Rattle.hall_terms.specs.Times.{stage_of, taking_of, until_of}
use Rattle.hall_terms.proofs.TimesLemmas.{late_same}
use Rattle.hall_terms.proofs.client_time.ClientTime.late_at.Goals as goal

pub returns : goal.returns
returns c = λ idle history is.
    c.late_from.ensures
    ∙ late_same c.args.self.stage (stage_of history) c.args.self.until (until_of idle history) c.args.self.taking
    (taking_of history) is.stage is.until is.taking
