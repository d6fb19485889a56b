use Rattle.std.proofs.Common.{ap, ◌∙◌}
use Rattle.session_queries.specs.Reading.{shown_analysis}
use Rattle.session_queries.specs.Shown.{shown}
use Rattle.session_state.specs.SessionState.{SessionState}
use Rattle.published_view.specs.Listing.{outcomes_of, tricks_shown}
use Rattle.published_view.proofs.listing.facts_for.Goals as goal

pub returns : goal.returns
returns g c =
    let marks = c.args.marks in
    let outcomes = c.new.ensures ∙ (c.in_ok-outcomes.ensures ∙ ap outcomes_of
    (c.deref.ensures.value ∙ c.in_ok-results.ensures)) in
    let tricks = c.tricks_shown.ensures ∙ ap (λ (state : SessionState).
    tricks_shown (shown_analysis (shown state c.args.viewer.now) c.args.board)) c.whole.ensures in
    λ i. record {
      vulnerability = marks.vulnerability;
      dealer = marks.dealer;
      outcomes = outcomes i;
      tricks = tricks i;
    }
