use Rattle.std.proofs.Common.{ap, ◌∙◌}
use Rattle.hall_terms.specs.Times.{stage_after, stage_of, taking_after, until_of}
use Rattle.hall_terms.proofs.TimesLemmas.{until_same}
use Rattle.hall_terms.proofs.client_time.ClientTime.after.Goals as goal

pub returns : goal.returns
returns c = λ small history is. record {
  stage = c.after.ensures ∙ ap (λ s. stage_after c.args.event s) is.stage;
  until =
      c.until_after.ensures small
      ∙ until_same c.args.idle c.args.event c.args.at c.args.self.stage (stage_of history) c.args.self.until
      (until_of c.args.idle history) is.stage is.until;
  taking = c.taking_after.ensures small ∙ ap (λ t. taking_after c.args.event c.args.at t) is.taking;
}
