use Rattle.std.proofs.Common.{◌*◌, ◌^◌, ◌%◌, ◌∙◌, ap}
use Rattle.std.specs.FinSet as set
use Rattle.cards.specs.Play.{is_of}
use Rattle.cards.proofs.HandSetLemmas.{and_below, suit_bits, suit_mask}
use Rattle.cards.proofs.hand.Hand.of_suit.Goals as goal

pub returns : goal.returns
returns c =
    suit_bits c.self.inside.bits _ c.args.suit (ap (λ n. 8191 * 2 ^ (13 * n) % 2 ^ 64) c.number.ensures.number
    ∙ suit_mask c.args.suit)
    ∙ ap (λ cards. set.retain cards (is_of c.args.suit)) c.self.view_is

pub invariant_of-result : goal.invariant_of-result
invariant_of-result c = and_below _ _ _ c.self.invariant
