use Rattle.std.proofs.Common.{[], ◌∷◌, sym, ◌∙◌}
use Rattle.session_state.specs.Refusal.{first_cause}
use Rattle.session_state.proofs.RefusalLemmas.{refused_actor, refused_hindrance, refused_last}
use Rattle.session_state.proofs.acceptance.refusal.Goals as goal

pub returns-then-not-is_permitted : goal.returns-then-not-is_permitted
returns-then-not-is_permitted c =
    sym (refused_actor c.args.state.now c.args.spoiler c.args.actor c.args.command.now c.args.entries
    (sym c.is_permitted.ensures ∙ c.if-not-is_permitted.true))

pub returns-then-is_some : goal.returns-then-is_some
returns-then-is_some c =
    let allowed = sym c.is_permitted.ensures ∙ c.if-not-is_permitted.false in
    sym (refused_hindrance c.args.state.now c.args.spoiler c.args.actor c.args.command.now c.args.entries
    c.hindrance-hindered.result allowed c.hindrance-hindered.ensures.cause
    (sym c.is_some.ensures ∙ c.if-is_some.true))

pub returns : goal.returns
returns c =
    let allowed = sym c.is_permitted.ensures ∙ c.if-not-is_permitted.false in
    c.first_cause.ensures
    ∙ (λ i. first_cause (c.spoiled.ensures i ∷ c.then_some.ensures i ∷ []))
    ∙ sym (refused_last c.args.state.now c.args.spoiler c.args.actor c.args.command.now c.args.entries
    c.hindrance-hindered.result allowed c.hindrance-hindered.ensures.cause
    (sym c.is_some.ensures ∙ c.if-is_some.false))
