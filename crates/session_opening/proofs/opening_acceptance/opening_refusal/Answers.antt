use Rattle.std.proofs.Common.{[], ◌∷◌, not, sym, ap, ◌∙◌}
use Rattle.std.specs.Bool.{then_some}
use Rattle.session_opening.specs.declared.opening_refusal.OpeningRefusal.TheVariants.{LastAdministrator}
use Rattle.session_state.specs.Accounts.{has_administrator}
use Rattle.session_opening.specs.Opening.{opening_roles}
use Rattle.session_opening.specs.OpeningRefusal.{users_causes, opening_refusal}
use Rattle.session_state.specs.Refusal.{first_cause}
use Rattle.session_opening.proofs.OpeningRefusalLemmas.{found_first, found_later, or_none, administrator_among}
use Rattle.session_opening.proofs.opening_acceptance.opening_refusal.Goals as goal

pub returns-then-is_some : goal.returns-then-is_some
unfolding opening_refusal
returns-then-is_some c =
    let config = c.args.config.now in
    let last = then_some (not (has_administrator (opening_roles config.edition config.users))) LastAdministrator in
    let causes = users_causes config.edition config.movement [] config.users in
    let found =
    c.users_refusal-refused.ensures
    ∙ ap (λ users. first_cause (users_causes config.edition config.movement [] users)) c.as_slice-users.ensures in
    sym (found_first causes (last ∷ []) c.users_refusal-refused.result found
    (sym c.is_some.ensures ∙ c.if-is_some.true))

pub returns : goal.returns
unfolding opening_refusal
returns c =
    let config = c.args.config.now in
    let last = then_some (not (has_administrator (opening_roles config.edition config.users))) LastAdministrator in
    let causes = users_causes config.edition config.movement [] config.users in
    let found =
    c.users_refusal-refused.ensures
    ∙ ap (λ users. first_cause (users_causes config.edition config.movement [] users)) c.as_slice-users.ensures in
    let somebody =
    c.has_administrator.ensures ∙ sym (administrator_among config.edition c.as_slice-users.result.now)
    ∙ ap (λ users. has_administrator (opening_roles config.edition users)) c.as_slice-users.ensures in
    c.then_some.ensures ∙ ap (λ b. then_some (not b) LastAdministrator) somebody ∙ sym (or_none last)
    ∙ sym (found_later causes (last ∷ []) c.users_refusal-refused.result found
    (sym c.is_some.ensures ∙ c.if-is_some.false))
