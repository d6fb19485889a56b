use Rattle.std.proofs.Common.{◌≡◌, ◌≤◌, take}
use Rattle.std.specs.Prelude.{count_by}
use Rattle.standings.specs.Order.{has_higher_percentage}
use Rattle.report_texts.proofs.points.ahead.Given as goal

-- those so far that are ahead
abbrev pub invariant-loop-other : goal.invariant-loop-other
invariant-loop-other l = record {
  so_far : l.count ≡ count_by (λ other. has_higher_percentage other l.standing) (take l.other-index l.ranking);
  few : l.count ≤ l.other-index;
}
