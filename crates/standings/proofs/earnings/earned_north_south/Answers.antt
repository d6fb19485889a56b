use Rattle.std.proofs.Common.{rules, ◌≡◌, ◌*◌, ℕ, ap, sym, ◌∙◌, to_z, of_z, w32}
use Rattle.standings.specs.Ranking.{earned_north_south}
use Rattle.standings.specs.Units.{units_of_score}
use Rattle.standings.proofs.earnings.earned_north_south.Goals as goal

pub returns-in-Confirmed : goal.returns-in-Confirmed
returns-in-Confirmed c =
    let same : to_z w32 (of_z w32 c.ns_score.result) ≡ c.ns_score.result = search rules in
    let units = c.units_of_score.ensures.units ∙ ap (units_of_score c.args.scores.now) (same ∙ c.ns_score.ensures) in
    ap (λ (n : ℕ). 100 * n) units ∙ ap (earned_north_south c.args.vulnerability c.args.scores.now)
    (sym c.in-Confirmed.is)
