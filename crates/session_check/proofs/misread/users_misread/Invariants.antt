use Rattle.std.proofs.Common.{◌≡◌, ◌+◌, drop}
use Rattle.serde_json.specs.View.{items_view}
use Rattle.session_check.specs.Members.{users_misread}
use Rattle.session_check.proofs.misread.users_misread.Given as goal

abbrev pub invariant-loop-place : goal.invariant-loop-place
invariant-loop-place l =
    users_misread l.edition 1 (items_view l.list)
    ≡ users_misread l.edition (l.place + 1) (items_view (drop l.place l.list))
