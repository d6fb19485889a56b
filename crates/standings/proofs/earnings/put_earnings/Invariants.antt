use Rattle.std.proofs.Common.{◌≡◌, ◌≤◌, take, map, vec_len, vec_capacity}
use Rattle.standings.specs.Ranking.{earning_of}
use Rattle.standings.specs.Traveller.{scores_of}
use Rattle.standings.proofs.earnings.put_earnings.Given as goal

abbrev pub invariant-loop-found : goal.invariant-loop-found
invariant-loop-found l = record {
  earnings : l.earnings.items ≡ map (earning_of l.movement l.fn.vulnerability (scores_of l.fn.vulnerability l.results))
      (take l.found-index l.results);
  many : vec_len l.earnings ≡ l.found-index;
  room : 16 ≤ vec_capacity l.earnings;
}
