use Rattle.std.proofs.Common.{◌≡◌, vec_len}
use Rattle.movement.specs.Movement.{boards_of}
use Rattle.class_views.specs.Kept.{IsKept, earned_to, seen_to}
use Rattle.class_views.proofs.kept.Kept.open.Given as goal

abbrev pub invariant-loop-before : goal.invariant-loop-before
invariant-loop-before l = record {
  classes : vec_len l.kept.classes ≡ 36;
  rows : vec_len l.kept.rows ≡ boards_of l.state.public.movement;
  kept : IsKept (boards_of l.state.public.movement) (seen_to l.state l.before) (earned_to l.state l.before)
      l.kept.classes.items l.kept.rows.items;
}
