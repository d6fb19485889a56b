use Rattle.std.proofs.Common.{◌+◌, ◌∙◌, ap}
use Rattle.std.specs.Prelude.{min}
use Rattle.session_state.specs.Apply.{apply}
use Rattle.published_view.specs.View.{Seen, most_versions}
use Rattle.published_view.proofs.StandingLemmas.{stands_after}
use Rattle.published_view.proofs.view.View.absorb.Goals as goal

pub returns-clause-stands : goal.returns-clause-stands
returns-clause-stands c opening entries stands =
    let after = stands_after opening entries c.args.entry.now c.args.self.now stands in
    record {
      state = c.absorb.ensures ∙ (ap (λ (seen : Seen). apply seen.state c.args.entry.now) c.self.view_is ∙ after.state);
      version =
          c.saturating_add-self-inside.ensures ∙ (ap (λ (seen : Seen). min (seen.version + 1) most_versions)
          c.self.view_is ∙ after.version);
    }
