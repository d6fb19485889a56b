use Rattle.std.proofs.Common.{◌≡◌, ◌+◌, ◌++◌, take, map, vec_len}
use Rattle.standings.specs.Ranking.{earning_of}
use Rattle.standings.proofs.earnings.add_earnings.Given as goal

abbrev pub invariant-loop-found : goal.invariant-loop-found
invariant-loop-found l = record {
  earnings : l.earnings.items ≡ l.fn.earnings.items ++ map (earning_of l.movement l.fn.vulnerability l.scores.items)
      (take l.found-index l.results);
  many : vec_len l.earnings ≡ vec_len l.fn.earnings + l.found-index;
}
