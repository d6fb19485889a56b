use Rattle.std.proofs.Common.{◌≡◌, ◌≤◌, map, take, vec_len, vec_capacity}
use Rattle.rbac.specs.Account.{most_users}
use Rattle.session_opening.proofs.opening.digests.Given as goal

abbrev pub invariant-loop-user : goal.invariant-loop-user
invariant-loop-user l = record {
  items : l.digests.items ≡ map (λ user. user.digest) (take l.user-index l.users);
  counted : vec_len l.digests ≡ l.user-index;
  room : most_users ≤ vec_capacity l.digests;
}
