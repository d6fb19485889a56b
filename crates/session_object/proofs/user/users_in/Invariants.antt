use Rattle.std.proofs.Common.{◌≡◌, drop}
use Rattle.serde_json.specs.View.{items_view}
use Rattle.json_fields.specs.Form.{each}
use Rattle.session_object.specs.Session.{new_user_of}
use Rattle.json_fields.proofs.ListLemmas.{with_front}
use Rattle.session_object.proofs.user.users_in.Given as goal

-- the users so far, and those of what is left
abbrev pub invariant-loop-value : goal.invariant-loop-value
invariant-loop-value l = with_front l.users.items (each (new_user_of l.edition)
    (items_view (drop l.value-index l.list))) ≡ each (new_user_of l.edition) (items_view l.list)
