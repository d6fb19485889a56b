use Rattle.scoring.proofs.StakeLemmas.{made-level}
use Rattle.scoring.proofs.laws.undoubled_tricks_are_worth_bidding.Goals as goal

pub returns : goal.returns
returns c = made-level
