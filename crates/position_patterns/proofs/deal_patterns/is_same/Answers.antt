use Rattle.std.proofs.Common.{◌∙◌, sym}
use Rattle.cards.proofs.CardBitsLemmas.{are_same_decides}
use Rattle.position_patterns.proofs.deal_patterns.is_same.Goals as goal

pub returns : goal.returns
returns c same = (are_same_decides c.args.a c.args.b).0 (sym c.eq.ensures ∙ same)
