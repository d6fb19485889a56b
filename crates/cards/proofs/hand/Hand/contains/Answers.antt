use Rattle.std.proofs.Common.{sym, ap, ◌∙◌, nat_eq}
use Rattle.std.specs.FinSet as set
use Rattle.std.specs.Int.{bit_at}
use Rattle.std.proofs.lemmas.Nat.Bits.{shr_and_one}
use Rattle.cards.specs.CardBits.{contains-cards_of_bits}
use Rattle.cards.proofs.hand.Hand.contains.Goals as goal

pub returns : goal.returns
returns c =
    ap (λ n. nat_eq n 1) (shr_and_one c.self.inside.bits c.number.result ∙ ap (bit_at c.self.inside.bits)
    c.number.ensures.number)
    ∙ sym (contains-cards_of_bits c.self.inside.bits c.args.card)
    ∙ ap (λ cards. set.contains cards c.args.card) c.self.view_is
