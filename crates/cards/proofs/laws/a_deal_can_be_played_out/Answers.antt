use Rattle.std.proofs.Common.{arith}
use Rattle.cards.proofs.PlayLemmas.{can_play, position_after, one_fewer}
use Rattle.cards.proofs.laws.a_deal_can_be_played_out.Goals as goal

pub returns-clause-legal : goal.returns-clause-legal
returns-clause-legal c p valid left = can_play p valid (λ none. omega (arith, left, none))

pub returns-clause-position : goal.returns-clause-position
returns-clause-position c = position_after

pub returns-clause-fewer : goal.returns-clause-fewer
returns-clause-fewer c = one_fewer
