-- What the results of a board earn.
use Rattle.std.proofs.Common.{◌≡◌, ℕ, ◌+◌, ◌-◌, ◌*◌, ◌<◌, ◌≤◌, List, sym, subst, arith}
use Rattle.std.proofs.lemmas.Nat.{mul-le}
use Rattle.std.specs.List.{Contains}
use Rattle.table_terms.specs.declared.vulnerability.Vulnerability.{Vulnerability}
use Rattle.scoring.specs.declared.outcome.Outcome.{Outcome}
use Rattle.scoring.specs.Law77.{ns_score_of}
use Rattle.standings.specs.declared.cell_result.CellResult.{CellResult}
use Rattle.standings.specs.declared.cell_result.CellResult.TheVariants.{Confirmed}
use Rattle.standings.specs.declared.table_result.TableResult.{TableResult}
use Rattle.standings.specs.Ranking.{earned_north_south, earned_east_west, top_of}
use Rattle.standings.specs.Traveller.{scores_of}
use Rattle.standings.specs.Units.{units_of_score}
use Rattle.standings.proofs.TravellerLemmas.{score_is_listed}
use Rattle.standings.proofs.UnitsLemmas.{units_within_top}

-- what the two sides earn by a result that was played adds up to the top
pub sides_share : (vulnerability : Vulnerability) (results : List TableResult) (found : TableResult)
    (outcome : Outcome) → Contains results found → found.result ≡ Confirmed outcome →
    earned_north_south vulnerability (scores_of vulnerability results) found.result + earned_east_west vulnerability
    (scores_of vulnerability results) found.result
    ≡ 100 * top_of (scores_of vulnerability results)
sides_share vulnerability results found outcome listed played =
    subst (λ (result : CellResult). earned_north_south vulnerability (scores_of vulnerability results) result +
    earned_east_west vulnerability (scores_of vulnerability results) result ≡ 100 * top_of
    (scores_of vulnerability results))
    (sym played)
    (add_up (units_of_score (scores_of vulnerability results) (ns_score_of outcome vulnerability))
    (top_of (scores_of vulnerability results))
    (units_within_top (scores_of vulnerability results) (ns_score_of outcome vulnerability)
    (score_is_listed vulnerability results found outcome listed played)))
  where
    add_up : (units top : ℕ) → units ≤ top → 100 * units + (100 * top - 100 * units) ≡ 100 * top
    add_up units top within = omega arith

-- a part of a top is small
pub part_fits : (percentage top : ℕ) → percentage < 256 → top ≤ 30 → percentage * top ≤ 7650
part_fits percentage top below few = mul-le percentage top 255 30 (omega arith) few
