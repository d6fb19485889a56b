use Rattle.std.proofs.Common.{◌≡◌, ◌≤◌, take, vec_len, vec_capacity}
use Rattle.rbac.specs.Account.{most_users}
use Rattle.session_opening.specs.Opening.{opening_seats}
use Rattle.session_opening.proofs.opening.seats.Given as goal

abbrev pub invariant-loop-user : goal.invariant-loop-user
invariant-loop-user l = record {
  items : l.seats.items ≡ opening_seats (take l.user-index l.users);
  counted : vec_len l.seats ≤ l.user-index;
  room : most_users ≤ vec_capacity l.seats;
}
