use Rattle.std.proofs.Common.{◌≡◌, ◌≤◌, ℕ, false, List, length}
use Rattle.movement.specs.Movement.{boards_of}
use Rattle.session_opening.specs.OpeningRefusal.{opening_refusal}
use Rattle.session_opening.specs.declared.new_user.NewUser.{NewUser}
use Rattle.session_check.specs.Users.{with_users, with_first, is_of_user}
use Rattle.session_check.proofs.refused_user.refused_user.Given as goal

abbrev pub invariant-loop-many : goal.invariant-loop-many
invariant-loop-many l = record {
  same : (users : List NewUser) → with_users l.config users ≡ with_users l.fn.config users;
  boards : boards_of l.config.movement ≤ length l.config.boards;
  none : (fewer : ℕ) → fewer ≤ l.many →
      is_of_user (opening_refusal (with_first (with_users l.fn.config l.users) fewer)) ≡ false;
}
