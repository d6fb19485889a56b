use Rattle.std.proofs.Common.{[], ◌∷◌, not, sym, ap, ◌∙◌}
use Rattle.std.specs.Bool.{then_some}
use Rattle.rbac.specs.Account.{is_user_name}
use Rattle.session_opening.specs.declared.opening_refusal.OpeningRefusal.TheVariants.{
  BadName,
  UserExists,
  NoSuchRole,
  AlreadyAssigned,
}
use Rattle.session_opening.specs.NewUser.{repeats, knows_roles}
use Rattle.session_state.specs.Refusal.{first_cause}
use Rattle.session_opening.proofs.OpeningRefusalLemmas.{account_among}
use Rattle.session_opening.proofs.opening_acceptance.account_refusal.Goals as goal

pub returns : goal.returns
returns c =
    let named = c.is_user_name.ensures ∙ ap is_user_name c.as_str.ensures.text in
    let there = c.has_account.ensures ∙ sym (account_among c.args.edition c.args.before.now c.args.user.now.name) in
    let known = c.knows_roles.ensures ∙ ap (knows_roles c.args.edition) c.as_slice.ensures in
    let again = c.repeats.ensures ∙ ap repeats c.as_slice-2.ensures in
    c.first_cause.ensures
    ∙ (λ i. first_cause (
    (c.then_some.ensures ∙ ap (λ b. then_some (not b) BadName) named) i
    ∷ (c.then_some-2.ensures ∙ ap (λ b. then_some b UserExists) there) i
    ∷ c.then_some-3.ensures i
    ∷ (c.then_some-4.ensures ∙ ap (λ b. then_some (not b) NoSuchRole) known) i
    ∷ (c.then_some-5.ensures ∙ ap (λ b. then_some b AlreadyAssigned) again) i
    ∷ c.separation_refusal.ensures i
    ∷ []))
