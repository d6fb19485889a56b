-- The results of a board whose hands a user is shown are all that there are.
use Rattle.std.proofs.Common.{◌≡◌, ℕ, List, None, sym, ap, ◌∙◌}
use Rattle.disclosure_rules.specs.declared.fact.Fact.TheVariants as fact
use Rattle.disclosure_rules.specs.declared.viewer.Viewer.{Viewer}
use Rattle.disclosure_rules.specs.Policy.{first_rule}
use Rattle.movement.specs.Movement.{IsSection}
use Rattle.standings.specs.declared.table_result.TableResult.{TableResult}
use Rattle.session_queries.specs.Reading.{shown_results}
use Rattle.session_queries.specs.Results.{live_results}
use Rattle.session_queries.specs.Shown.{shown}
use Rattle.session_queries.proofs.LiveLemmas.{all_results}
use Rattle.session_state.specs.SessionState.{SessionState, AreLive}

pub results_alike : (state own : SessionState) (viewer : Viewer) (board : ℕ) (results : List TableResult) →
    state ≡ own → IsSection own.public.movement → AreLive own.public.live own.cells →
    first_rule own.public viewer (fact.Hands board) ≡ None →
    results ≡ live_results state board → results ≡ shown_results own.public.movement (shown own viewer) board
results_alike state own viewer board results same is_section live allowed found =
    found ∙ (ap (λ (state : SessionState). live_results state board) same
    ∙ sym (all_results own viewer board allowed is_section live))
