use Rattle.par.proofs.BidLemmas.{in_order, each_bid}
use Rattle.par.proofs.laws.bids_are_in_order.Goals as goal

pub returns-clause-order : goal.returns-clause-order
returns-clause-order c = in_order

pub returns-clause-each : goal.returns-clause-each
returns-clause-each c = each_bid
