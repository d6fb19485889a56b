use Rattle.std.proofs.Common.{[], ◌∷◌, not, sym, ap, ◌∙◌}
use Rattle.std.specs.Bool.{then_some}
use Rattle.session_roles.specs.Role.{has}
use Rattle.session_roles.specs.declared.role.Role.TheVariants.{Contestant}
use Rattle.session_opening.specs.declared.opening_refusal.OpeningRefusal.TheVariants.{
  NoSuchPair,
  WrongDirection,
  NotContestant,
  SeatTaken,
}
use Rattle.session_state.specs.Refusal.{first_cause}
use Rattle.session_opening.proofs.OpeningRefusalLemmas.{taken_among}
use Rattle.session_opening.proofs.opening_acceptance.seat_refusal.Goals as goal

pub returns : goal.returns
returns c =
    let contestant = c.has-contestant.ensures.has ∙ ap (λ set. has set Contestant) c.authorized_at_opening.ensures in
    let taken = c.is_taken.ensures ∙ sym (taken_among c.args.before.now c.args.seat) in
    c.first_cause.ensures
    ∙ (λ i. first_cause (
    (c.then_some.ensures ∙ ap (λ b. then_some (not b) NoSuchPair) c.has_pair.ensures) i
    ∷ (c.then_some-2.ensures ∙ ap (λ b. then_some (not b) WrongDirection) c.is_of_side.ensures) i
    ∷ (c.then_some-3.ensures ∙ ap (λ b. then_some (not b) NotContestant) contestant) i
    ∷ (c.then_some-4.ensures ∙ ap (λ b. then_some b SeatTaken) taken) i
    ∷ []))
