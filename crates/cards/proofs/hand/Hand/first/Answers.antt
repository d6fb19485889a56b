use Rattle.std.proofs.Common.{◌≡◌, ◌∙◌, ap, sym, arith}
use Rattle.std.specs.FinSet as set
use Rattle.std.specs.Prelude.{nat_eq}
use Rattle.std.specs.Int.{bit_at}
use Rattle.std.proofs.lemmas.Bool.{eq-eqb, eqb-true}
use Rattle.cards.specs.Card.{number_in_pack}
use Rattle.cards.specs.Cards.{cards_of_bits}
use Rattle.cards.specs.CardBits.{contains-cards_of_bits}
use Rattle.cards.proofs.CardBitsLemmas.{cards_of_no_bits}
use Rattle.cards.proofs.HandSetLemmas.{lowest_bit}
use Rattle.cards.proofs.hand.Hand.first.Goals as goal

pub returns-then-self-eq0-clause-none : goal.returns-then-self-eq0-clause-none
returns-then-self-eq0-clause-none c = sym c.self.view_is ∙ ap cards_of_bits c.if-self-eq0.true ∙ cards_of_no_bits

pub from_number-requires : goal.from_number-requires
from_number-requires c = (lowest_bit c.self.inside.bits c.self.invariant c.if-self-eq0.false).0

pub returns-clause-some : goal.returns-clause-some
returns-clause-some c =
    ap (λ cards. set.contains cards c.from_number.result) (sym c.self.view_is)
    ∙ contains-cards_of_bits c.self.inside.bits c.from_number.result
    ∙ ap (λ k. nat_eq (bit_at c.self.inside.bits k) 1) c.from_number.ensures
    ∙ eq-eqb _ _ (lowest_bit c.self.inside.bits c.self.invariant c.if-self-eq0.false).1

pub returns-clause-first : goal.returns-clause-first
returns-clause-first c other held =
    let low = lowest_bit c.self.inside.bits c.self.invariant c.if-self-eq0.false in
    let here : bit_at c.self.inside.bits (number_in_pack other) ≡ 1 = eqb-true _ _
    (sym (contains-cards_of_bits c.self.inside.bits other) ∙ ap (λ cards. set.contains cards other) c.self.view_is
    ∙ held) in
    omega (arith, low.2 (number_in_pack other) here, c.from_number.ensures)
