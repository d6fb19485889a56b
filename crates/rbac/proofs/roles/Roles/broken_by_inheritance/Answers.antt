use Rattle.std.proofs.Common.{List, ap, ◌∙◌}
use Rattle.std.specs.Prelude.{find}
use Rattle.rbac.specs.declared.account.Account.{Account}
use Rattle.rbac.specs.Hierarchy.{is_broken_in}
use Rattle.rbac.specs.Inheritance.{pair_of}
use Rattle.rbac.specs.Kept.{data_of}
use Rattle.rbac.specs.Review.{first_broken}
use Rattle.rbac.specs.RoleData.{RoleData, add_inheritance}
use Rattle.session_roles.specs.Separation.{separation_sets}
use Rattle.rbac.proofs.HierarchyLemmas.{closure_push}
use Rattle.rbac.proofs.ReviewLemmas.{broken_by_table}
use Rattle.rbac.proofs.roles.Roles.broken_by_inheritance.Goals as goal

pub returns : goal.returns
returns c =
    let state : RoleData = data_of c.self.inside in
    let table = c.with-hierarchy.result.reached in
    let closure = closure_push state.pairs c.self.inside.hierarchy.reached table (pair_of c.args.senior c.args.junior)
    c.self.invariant.closure c.with-hierarchy.ensures in
    c.first_broken.ensures
    ∙ ap (λ (accounts : List Account). find (is_broken_in table accounts) separation_sets) c.deref.ensures.value
    ∙ broken_by_table (add_inheritance state c.args.senior c.args.junior).pairs table closure state.accounts
    state.edition
    ∙ ap (λ (now : RoleData). first_broken (add_inheritance now c.args.senior c.args.junior)) c.self.view_is
