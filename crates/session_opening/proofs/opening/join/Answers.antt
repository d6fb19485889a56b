use Rattle.std.proofs.Common.{◌<◌, length, get_or, sym, ◌∙◌, subst}
use Rattle.rbac.specs.Authorization.{KeepsSeparation}
use Rattle.rbac.specs.Refusals.{RefusesAssignment}
use Rattle.rbac.specs.RoleData.{assign_user}
use Rattle.session_roles.specs.declared.role.Role.TheVariants.{Member}
use Rattle.session_opening.proofs.JoiningLemmas.{user_joins, user_added, role_joins, role_added, apart_so_far}
use Rattle.session_opening.proofs.opening.join.Goals as goal

pub add_user_unrefused-requires : goal.add_user_unrefused-requires
add_user_unrefused-requires c = user_joins c.args.roles.now c.args.user.now c.requires.may_join

pub loop-role-init : goal.loop-role-init
loop-role-init c = c.add_user_unrefused.ensures ∙ user_added c.args.roles.now c.args.user.now c.requires.may_join

pub assign_unrefused-requires : goal.assign_unrefused-requires
assign_unrefused-requires c cause =
    let user = c.args.user.now in
    let place = c.loop-role.role-index in
    let within = subst (λ list. place < length list) c.as_slice-role-items.ensures c.loop-role-test.true in
    λ refused. role_joins c.args.roles.now user c.requires.may_join c.requires.separate place Member within cause
    (subst (λ state. RefusesAssignment state user.name (get_or user.roles place Member) cause) c.loop-role.invariant
    (subst (λ name. RefusesAssignment c.loop-role.roles name (get_or user.roles place Member) cause)
    c.as_str.ensures.text
    (subst (λ list. RefusesAssignment c.loop-role.roles c.as_str.result.now (get_or list place Member) cause)
    c.as_slice-role-items.ensures
    refused)))

pub loop-role-preserved : goal.loop-role-preserved
loop-role-preserved c =
    let user = c.args.user.now in
    let place = c.loop-role.role-index in
    let within = subst (λ list. place < length list) c.as_slice-role-items.ensures c.loop-role-test.true in
    c.assign_unrefused.ensures
    ∙ (λ i. assign_user (c.loop-role.invariant i) (c.as_str.ensures.text i)
    (get_or (c.as_slice-role-items.ensures i) place Member))
    ∙ role_added c.args.roles.now user c.requires.may_join place Member within

pub returns-clause-separate : goal.returns-clause-separate
returns-clause-separate c =
    subst KeepsSeparation (sym c.loop-role.invariant)
    (apart_so_far c.args.roles.now c.args.user.now c.requires.may_join c.requires.separate c.loop-role.role-index)
