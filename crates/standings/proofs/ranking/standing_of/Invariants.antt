use Rattle.std.proofs.Common.{◌≡◌, ◌*◌, ◌≤◌, take}
use Rattle.std.specs.List.{sum_by}
use Rattle.standings.specs.Ranking.{earned_by, top_for}
use Rattle.standings.proofs.ranking.standing_of.Given as goal

abbrev pub invariant-loop-earning : goal.invariant-loop-earning
invariant-loop-earning l = record {
  earned : l.earned ≡ sum_by (earned_by l.pair) (take l.earning-index l.earnings);
  tops : l.tops ≡ sum_by (top_for l.pair) (take l.earning-index l.earnings);
  few_earned : l.earned ≤ 4294967295 * l.earning-index;
  few_tops : l.tops ≤ 4294967295 * l.earning-index;
}
