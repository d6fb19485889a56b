use Rattle.std.proofs.Common.{◌≡◌}
use Rattle.par.specs.BestBids.{best_bids}
use Rattle.par.proofs.auction.auction.Given as goal

-- what the best bids come to, where so many are left
abbrev pub invariant-loop-higher : goal.invariant-loop-higher
invariant-loop-higher l = l.best ≡ best_bids l.table l.vulnerability l.higher
