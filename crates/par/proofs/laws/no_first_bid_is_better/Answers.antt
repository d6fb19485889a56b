use Rattle.par.proofs.AuctionLemmas.{no_first_bid}
use Rattle.par.proofs.laws.no_first_bid_is_better.Goals as goal

pub returns : goal.returns
returns c = no_first_bid
