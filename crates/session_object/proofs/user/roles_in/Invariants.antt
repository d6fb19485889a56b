use Rattle.std.proofs.Common.{◌≡◌, drop}
use Rattle.serde_json.specs.View.{items_view}
use Rattle.json_fields.specs.Form.{each}
use Rattle.json_fields.specs.User.{role_of}
use Rattle.json_fields.proofs.ListLemmas.{with_front}
use Rattle.session_object.proofs.user.roles_in.Given as goal

-- the roles so far, and those of what is left
abbrev pub invariant-loop-value : goal.invariant-loop-value
invariant-loop-value l = with_front l.roles.items (each (role_of l.edition) (items_view (drop l.value-index l.list)))
    ≡ each (role_of l.edition) (items_view l.list)
