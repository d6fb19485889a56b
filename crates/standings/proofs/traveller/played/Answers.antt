use Rattle.std.proofs.Common.{rules, ◌≡◌, ap, ◌∙◌, to_z, of_z, w32}
use Rattle.standings.specs.declared.row_result.RowResult.TheVariants.{Played}
use Rattle.standings.specs.Units.{units_of_score}
use Rattle.standings.proofs.traveller.played.Goals as goal

pub returns : goal.returns
returns c =
    let same : to_z w32 (of_z w32 c.ns_score-score.result) ≡ c.ns_score-score.result = search rules in
    let score = same ∙ c.ns_score-score.ensures in
    let units = c.units_of_score.ensures.units ∙ ap (units_of_score c.args.scores.now) score in
    λ i. Played c.args.outcome.now (score i) (units i)
