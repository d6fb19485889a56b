use Rattle.std.proofs.Common.{◌≡◌, ◌≤◌, map, take, vec_len, vec_capacity}
use Rattle.rbac.specs.Account.{most_users}
use Rattle.session_opening.proofs.opening.names.Given as goal

abbrev pub invariant-loop-user : goal.invariant-loop-user
invariant-loop-user l = record {
  items : l.names.items ≡ map (λ user. user.shown) (take l.user-index l.users);
  counted : vec_len l.names ≡ l.user-index;
  room : most_users ≤ vec_capacity l.names;
}
