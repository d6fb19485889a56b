-- The scores of the results of a board.
use Rattle.std.proofs.Common.{
  ◌≡◌,
  ℕ,
  zero,
  suc,
  ◌<◌,
  ℤ,
  List,
  [],
  ◌∷◌,
  length,
  get_or,
  refl,
  sym,
  ap,
  ◌∙◌,
  subst,
  arith,
}
use Rattle.std.specs.Prelude.{Option, Some, None}
use Rattle.std.specs.List.{cons_option, Contains}
use Rattle.table_terms.specs.declared.vulnerability.Vulnerability.{Vulnerability}
use Rattle.scoring.specs.declared.outcome.Outcome.{Outcome}
use Rattle.scoring.specs.Law77.{ns_score_of}
use Rattle.standings.specs.declared.cell_result.CellResult.TheVariants.{Confirmed}
use Rattle.standings.specs.declared.table_result.TableResult.{TableResult}
use Rattle.standings.specs.Traveller.{result_score, scores_of}

-- what a list has, it has after one more element too, or none
contains_more : {X : Type 0} (o : Option X) (xs : List X) (x : X) → Contains xs x → Contains (cons_option o xs) x
contains_more None xs x listed = listed
contains_more (Some first) xs x (k, below, is) = (suc k, omega arith, is)

-- the score of a result that was played is among the scores
pub score_is_listed : (vulnerability : Vulnerability) (results : List TableResult) (found : TableResult)
    (outcome : Outcome) →
    Contains results found → found.result ≡ Confirmed outcome → Contains (scores_of vulnerability results)
    (ns_score_of outcome vulnerability)
score_is_listed vulnerability results found outcome (k, below, is) played = at_index results k below is
  where
    at_index : (results : List TableResult) (k : ℕ) → k < length results → get_or results k found ≡ found →
        Contains (scores_of vulnerability results) (ns_score_of outcome vulnerability)
    at_index [] k below is = absurd (omega arith)
    at_index (first ∷ rest) zero below is =
        subst (λ (o : Option ℤ). Contains (cons_option o (scores_of vulnerability rest))
        (ns_score_of outcome vulnerability))
        (sym (ap (result_score vulnerability) (ap (λ (found : TableResult). found.result) is ∙ played)))
        (0, omega arith, refl)
    at_index (first ∷ rest) (suc k) below is = contains_more (result_score vulnerability first.result)
        (scores_of vulnerability rest) _ (at_index rest k (omega arith) is)
