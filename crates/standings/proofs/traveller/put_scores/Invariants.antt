use Rattle.std.proofs.Common.{◌≡◌, ◌≤◌, take, vec_len, vec_capacity}
use Rattle.standings.specs.Traveller.{scores_of}
use Rattle.standings.proofs.traveller.put_scores.Given as goal

abbrev pub invariant-loop-found : goal.invariant-loop-found
invariant-loop-found l = record {
  scores : l.scores.items ≡ scores_of l.vulnerability (take l.found-index l.results);
  few : vec_len l.scores ≤ l.found-index;
  room : 16 ≤ vec_capacity l.scores;
}
