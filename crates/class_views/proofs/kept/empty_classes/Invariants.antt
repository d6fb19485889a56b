use Rattle.std.proofs.Common.{◌≡◌, ℕ, ◌<◌, get_or, vec_len}
use Rattle.class_views.specs.Kept.{IsNothing}
use Rattle.class_views.specs.declared.class_view.ClassView.{ClassView}
use Rattle.class_views.proofs.kept.empty_classes.Given as goal

abbrev pub invariant-loop-made : goal.invariant-loop-made
invariant-loop-made l = record {
  each : vec_len l.classes ≡ l.made;
  none : (k : ℕ) (d : ClassView) → k < l.made → IsNothing (get_or l.classes.items k d);
}
