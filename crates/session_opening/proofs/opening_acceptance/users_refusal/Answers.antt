use Rattle.std.proofs.Common.{◌≡◌, ◌+◌, take, get_or, sym, ap, ◌∙◌}
use Rattle.session_opening.specs.OpeningRefusal.{user_causes}
use Rattle.session_state.specs.Refusal.{first_cause}
use Rattle.session_opening.proofs.OpeningRefusalLemmas.{causes_on, causes_more, found_first, found_later}
use Rattle.session_opening.proofs.opening_acceptance.users_refusal.Goals as goal

pub returns-then-is_some : goal.returns-then-is_some
returns-then-is_some c =
    let edition = c.args.edition in
    let movement = c.args.movement.now in
    let users = c.args.users.now in
    let place = c.loop-place.place in
    let user = c.index-users-place.result in
    let found : c.user_refusal-refused.result ≡ first_cause (user_causes edition movement (take place users)
    (get_or users place user)) =
    c.user_refusal-refused.ensures ∙ ap (λ user. first_cause (user_causes edition movement (take place users) user))
    c.index-users-place.is in
    sym (c.loop-place.invariant ∙ ap first_cause (causes_more edition movement users place user c.loop-place-test.true)
    ∙ found_first (user_causes edition movement (take place users) (get_or users place user))
    (causes_on edition movement users (place + 1)) c.user_refusal-refused.result found
    (sym c.is_some.ensures ∙ c.if-is_some.true))

pub loop-place-preserved : goal.loop-place-preserved
loop-place-preserved c =
    let edition = c.args.edition in
    let movement = c.args.movement.now in
    let users = c.args.users.now in
    let place = c.loop-place.place in
    let user = c.index-users-place.result in
    let found : c.user_refusal-refused.result ≡ first_cause (user_causes edition movement (take place users)
    (get_or users place user)) =
    c.user_refusal-refused.ensures ∙ ap (λ user. first_cause (user_causes edition movement (take place users) user))
    c.index-users-place.is in
    c.loop-place.invariant ∙ ap first_cause (causes_more edition movement users place user c.loop-place-test.true)
    ∙ found_later (user_causes edition movement (take place users) (get_or users place user))
    (causes_on edition movement users (place + 1)) c.user_refusal-refused.result found
    (sym c.is_some.ensures ∙ c.if-is_some.false)
