use Rattle.std.proofs.Common.{ap, ◌∙◌}
use Rattle.session_queries.specs.declared.body.Body.TheVariants as body
use Rattle.standings.specs.Ranking.{pairs_of, ranked}
use Rattle.published_view.proofs.TotalLemmas.{standings_by_class}
use Rattle.published_view.proofs.answers_of_classes.ranking.Goals as goal

pub returns : goal.returns
returns c =
    let state = c.args.views.now in
    let found = c.in_ok-totals.ensures in
    ap body.Ranking
    (c.new.ensures
    ∙ (c.in_ok-standings.ensures
    ∙ ap ranked
    (c.deref.ensures.value
    ∙ (found.standings ∙ standings_by_class state c.args.viewer.now found.section found.live found.dealt
    (pairs_of state.public.movement)))))
