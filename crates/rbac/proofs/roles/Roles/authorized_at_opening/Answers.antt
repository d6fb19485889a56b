use Rattle.std.proofs.Common.{◌∙◌}
use Rattle.rbac.specs.Inheritance.{opening_pairs}
use Rattle.rbac.proofs.AuthorizationLemmas.{closure_reached}
use Rattle.rbac.proofs.roles.Roles.authorized_at_opening.Goals as goal

pub returns : goal.returns
returns c = c.reached_from.ensures ∙ closure_reached (opening_pairs c.args.edition) c.opening.result.reached c.args.assigned
    c.opening.ensures
