use Rattle.hall_turns.proofs.ServingLemmas.{serves_turn}
use Rattle.hall_turns.proofs.talkers.take_turn.Goals as goal

pub returns : goal.returns
returns g c =
    serves_turn c.serve_at-end.result _ _ _ _ _ c.serve_at-end.ensures.others c.serve_at-end.ensures.turn
    c.serve_at-end.ensures.stays c.serve_at-end.ensures.nobody
