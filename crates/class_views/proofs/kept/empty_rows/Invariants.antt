use Rattle.std.proofs.Common.{◌≡◌, ℕ, ◌<◌, [], List, get_or, vec_len}
use Rattle.scoring.specs.declared.standing.Standing.{Standing}
use Rattle.class_views.specs.Kept.{AreWithinBoard, AreStandings}
use Rattle.class_views.proofs.kept.empty_rows.Given as goal

abbrev pub invariant-loop-made : goal.invariant-loop-made
invariant-loop-made l = record {
  each : vec_len l.rows ≡ l.made;
  none : (k : ℕ) (d : List Standing) → k < l.made → AreStandings [] (get_or l.rows.items k d);
  small : (k : ℕ) (d : List Standing) → k < l.made → AreWithinBoard (get_or l.rows.items k d);
}
