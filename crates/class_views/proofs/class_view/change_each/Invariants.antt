use Rattle.std.proofs.Common.{◌≡◌, ℕ, ◌<◌, ◌≤◌, get_or, vec_len}
use Rattle.std.specs.Prelude.{Some}
use Rattle.class_views.specs.Classes.{class_sees, without_embargo}
use Rattle.class_views.specs.Kept.{IsClassWith}
use Rattle.class_views.specs.Places.{class_at}
use Rattle.class_views.specs.declared.class_view.ClassView.{ClassView}
use Rattle.class_views.proofs.class_view.change_each.Given as goal

abbrev pub invariant-loop-place : goal.invariant-loop-place
invariant-loop-place l = record {
  each : vec_len l.classes ≡ 36;
  done : (k : ℕ) (d : ClassView) → k < l.place →
      IsClassWith l.board (class_sees (without_embargo l.public) (Some (class_at k)) l.board) l.old l.new
      (get_or l.initial.classes.items k d) (get_or l.classes.items k d);
  rest : (k : ℕ) (d : ClassView) → l.place ≤ k → get_or l.classes.items k d ≡ get_or l.initial.classes.items k d;
}
