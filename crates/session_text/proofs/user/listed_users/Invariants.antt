use Rattle.std.proofs.Common.{map, take}
use Rattle.json_fields.specs.Written.{HasItems}
use Rattle.session_text.specs.SessionData.{user_data}
use Rattle.session_text.proofs.user.listed_users.Given as goal

abbrev pub invariant-loop-user : goal.invariant-loop-user
invariant-loop-user l = HasItems l.items (map user_data (take l.user-index l.users))
