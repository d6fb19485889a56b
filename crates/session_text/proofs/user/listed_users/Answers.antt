use Rattle.std.proofs.Common.{List, [], ◌∷◌, ◌++◌, map, take, ap, sym, subst, ◌∙◌}
use Rattle.std.proofs.lemmas.Grind.{take_at_read}
use Rattle.std.proofs.lemmas.List.{map_push}
use Rattle.serde_json.specs.Data.{Data}
use Rattle.session_opening.specs.declared.new_user.NewUser.{NewUser}
use Rattle.json_fields.specs.Written.{HasItems}
use Rattle.session_text.specs.SessionData.{user_data}
use Rattle.session_text.proofs.user.listed_users.Goals as goal

pub loop-user-preserved : goal.loop-user-preserved
loop-user-preserved c =
    let before = take c.loop-user.user-index c.args.users.now in
    subst (λ (items : List Data). HasItems c.item-items.result items)
    (sym (ap (map user_data) (take_at_read c.args.users.now c.loop-user.user-index c.user-item.result c.loop-user-test.true).1
    ∙ map_push user_data before _
    ∙ ap (λ (user : NewUser). map user_data before ++ user_data user ∷ []) (sym c.user-item.is)))
    (c.item-items.ensures _ _ c.loop-user.invariant c.user_value.ensures)
