use Rattle.std.proofs.Common.{◌≡◌, take}
use Rattle.std.specs.Prelude.{filter}
use Rattle.session_roles.specs.Role.{has, roles}
use Rattle.reply_texts.proofs.accounts_writing.roles_in.Given as goal

-- the roles so far are those in the set
abbrev pub invariant-loop-role : goal.invariant-loop-role
invariant-loop-role l = l.roles.items ≡ filter (has l.assigned) (take l.role-index roles)
