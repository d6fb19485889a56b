-- The units of a result by its place among the scores, and by its score.
use Rattle.std.proofs.Common.{◌≡◌, ℕ, ◌<◌, ◌≤◌, ℤ, pos, List, length, get_or, ap, ◌∙◌, arith}
use Rattle.std.specs.List.{Contains}
use Rattle.std.proofs.lemmas.List.{get_or_default}
use Rattle.scoring.specs.Law78A.{units}
use Rattle.scoring.proofs.MatchpointLemmas.{units-add-one, counts_itself}
use Rattle.scoring.proofs.BoardLemmas.{units-neg}
use Rattle.standings.specs.Units.{units_of_score}
use Rattle.standings.specs.Ranking.{top_of}

pub units_by_score : (scores : List ℤ) (place : ℕ) → place < length scores → units scores place ≡ units_of_score scores
    (get_or scores place (pos 0))
units_by_score scores place inside =
    omega (arith, units-add-one scores place inside, counts_itself scores place inside)

-- a score of the list has no more units than a top
pub units_within_top : (scores : List ℤ) (score : ℤ) → Contains scores score → units_of_score scores score ≤ top_of
    scores
units_within_top scores score (place, inside, is) =
    let here : get_or scores place (pos 0) ≡ score = get_or_default scores place (pos 0) score inside ∙ is in
    let same : units scores place ≡ units_of_score scores score = units_by_score scores place inside
    ∙ ap (units_of_score scores) here in
    omega (arith, same, units-neg scores place inside)
