use Rattle.std.proofs.Common.{◌≡◌, ◌-◌, drop, length}
use Rattle.standings.specs.Ranking.{ranked}
use Rattle.standings.proofs.ranking.ranked.Given as goal

abbrev pub invariant-loop-taken : goal.invariant-loop-taken
invariant-loop-taken l = l.all.items ≡ ranked (drop (length l.standings - l.taken) l.standings)
