use Rattle.std.proofs.Common.{map, take}
use Rattle.json_fields.specs.Written.{HasItems}
use Rattle.session_text.specs.SessionData.{named_role}
use Rattle.session_text.proofs.user.listed_roles.Given as goal

abbrev pub invariant-loop-role : goal.invariant-loop-role
invariant-loop-role l = HasItems l.items (map named_role (take l.role-index l.roles))
