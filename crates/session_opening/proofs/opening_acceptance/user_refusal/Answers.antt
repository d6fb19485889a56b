use Rattle.std.proofs.Common.{sym, ap, ◌∙◌}
use Rattle.session_opening.specs.OpeningRefusal.{account_causes, seat_causes}
use Rattle.session_state.specs.Refusal.{first_cause}
use Rattle.session_opening.proofs.OpeningRefusalLemmas.{found_first, found_later}
use Rattle.session_opening.proofs.opening_acceptance.user_refusal.Goals as goal

pub returns-then-is_some : goal.returns-then-is_some
returns-then-is_some c =
    let before = c.args.before.now in
    let user = c.args.user.now in
    sym (found_first (account_causes c.args.edition before user)
    (seat_causes c.args.edition c.args.movement.now before user user.seat)
    c.account_refusal-refused.result c.account_refusal-refused.ensures (sym c.is_some.ensures ∙ c.if-is_some.true))

pub returns-in-Some : goal.returns-in-Some
returns-in-Some c =
    let before = c.args.before.now in
    let user = c.args.user.now in
    c.seat_refusal.ensures
    ∙ ap (λ seat. first_cause (seat_causes c.args.edition c.args.movement.now before user seat)) (sym c.in-Some.is)
    ∙ sym (found_later (account_causes c.args.edition before user)
    (seat_causes c.args.edition c.args.movement.now before user user.seat)
    c.account_refusal-refused.result c.account_refusal-refused.ensures (sym c.is_some.ensures ∙ c.if-is_some.false))
