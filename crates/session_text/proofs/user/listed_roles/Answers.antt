use Rattle.std.proofs.Common.{List, map, take, ap, sym, subst, ◌∙◌}
use Rattle.std.proofs.lemmas.Grind.{take_at_read}
use Rattle.std.proofs.lemmas.List.{map_push}
use Rattle.serde_json.specs.Data.{Data}
use Rattle.json_fields.specs.Written.{HasItems}
use Rattle.session_text.specs.SessionData.{named_role}
use Rattle.session_text.proofs.user.listed_roles.Goals as goal

pub loop-role-preserved : goal.loop-role-preserved
loop-role-preserved c =
    subst (λ (items : List Data). HasItems c.item-items.result items)
    (sym (ap (map named_role) (take_at_read c.args.roles.now c.loop-role.role-index _ c.loop-role-test.true).1
    ∙ map_push named_role (take c.loop-role.role-index c.args.roles.now) _))
    (c.item-items.ensures _ _ c.loop-role.invariant c.role_value.ensures)
