use Rattle.std.proofs.Common.{◌≡◌, ℤ, arith, rules, count_by, int_lt}
use Rattle.std.specs.Ordering.{int_eq}
use Rattle.standings.proofs.units.units_of_score.Goals as goal

pub returns-clause-units : goal.returns-clause-units
returns-clause-units c =
    let below : c.beaten.result ≡ count_by (λ (other : ℤ). int_lt other c.args.score) c.args.scores.now =
    search rules in
    let level : c.equal.result ≡ count_by (λ (other : ℤ). int_eq other c.args.score) c.args.scores.now = search rules in
    omega (arith, below, level, c.saturating_sub-others.ensures)
