use Rattle.position_patterns.proofs.holders.Holders.remainder.Goals as goal
use Rattle.position_patterns.proofs.RemainderLemmas.{true_remainder}

pub returns : goal.returns
returns c = true_remainder c.args.self.now c.args.part.now _ c.requires c.held.ensures c.suit_pattern.ensures
