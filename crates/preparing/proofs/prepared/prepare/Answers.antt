use Rattle.std.proofs.lemmas.Result.{IfOk-weaker}
use Rattle.preparing.proofs.GuestsLemmas.{prepared_for}
use Rattle.preparing.proofs.prepared.prepare.Goals as goal

pub returns-clause-people : goal.returns-clause-people
returns-clause-people c =
    let short = c.in_ok-check_notices.ensures in
    let same = c.as_slice.ensures.value in
    IfOk-weaker c.prepare_for.result _ _ (λ prepared is.
    prepared_for c.args.plan.now c.args.people.now c.args.tokens.now c.args.boards.now prepared c.in_ok-guests.guests.items
    c.in_ok-guests.ensures (rw same at (is short))) c.prepare_for.ensures.guests
