use Rattle.std.proofs.Common.{ap, ◌∙◌}
use Rattle.rbac.specs.Kept.{data_of}
use Rattle.rbac.specs.Review.{first_broken}
use Rattle.rbac.specs.RoleData.{RoleData, assign_user}
use Rattle.rbac.proofs.AccountLemmas.{found_at}
use Rattle.rbac.proofs.RefusalLemmas.{searched}
use Rattle.rbac.proofs.ReviewLemmas.{nobody_breaks, breaks_alone}
use Rattle.rbac.proofs.roles.Roles.broken_by_assignment.Goals as goal

pub returns-in_err-place : goal.returns-in_err-place
returns-in_err-place c =
    c.from_residual.ensures
    ∙ nobody_breaks (data_of c.self.inside) c.args.name.now c.args.role c.self.invariant.valid
    (rw c.deref.ensures.value at c.in_err-place.ensures.none)
    ∙ ap (λ (now : RoleData). first_broken (assign_user now c.args.name.now c.args.role)) c.self.view_is

pub returns : goal.returns
returns c =
    let state : RoleData = data_of c.self.inside in
    let at = found_at c.deref.result.now state.accounts c.args.name.now c.in_ok-place.place c.deref.ensures.value
    c.in_ok-place.ensures.within c.in_ok-place.ensures.found in
    searched state c.self.inside.hierarchy.reached c.in_ok-place.place c.index.result.now c.args.role c.with-more.result
    c.reached_from.result c.first_broken_by.result c.self.invariant.closure c.index.ensures c.with-more.ensures
    c.reached_from.ensures c.first_broken_by.ensures
    ∙ breaks_alone state c.args.name.now c.args.role c.in_ok-place.place at c.self.invariant.valid c.index.result.now
    ∙ ap (λ (now : RoleData). first_broken (assign_user now c.args.name.now c.args.role)) c.self.view_is
