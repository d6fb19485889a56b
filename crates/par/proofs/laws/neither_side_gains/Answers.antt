use Rattle.par.proofs.AuctionLemmas.{par_stands}
use Rattle.par.proofs.laws.neither_side_gains.Goals as goal

pub returns : goal.returns
returns c = par_stands
