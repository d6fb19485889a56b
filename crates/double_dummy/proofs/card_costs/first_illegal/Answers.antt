use Rattle.std.proofs.Common.{◌≡◌, ◌+◌, ◌∙◌, ap, sym, arith, suc, Some}
use Rattle.cards.specs.declared.card.Card.{Card}
use Rattle.table_terms.specs.declared.suit.Suit.TheVariants.{Spades}
use Rattle.cards.specs.declared.rank.Rank.TheVariants.{Two}
use Rattle.double_dummy.proofs.PlayedLemmas.{past_card, at_card}
use Rattle.double_dummy.proofs.card_costs.first_illegal.Goals as goal

none : Card
none = record { suit = Spades; rank = Two }

pub loop-i-preserved : goal.loop-i-preserved
unfolding none
loop-i-preserved c =
    let i = c.loop-i.i in
    let next : i + 1 ≡ suc i = omega arith in
    let more : suc (i + 1) ≡ suc (suc i) = omega arith in
    c.loop-i.invariant
    ∙ past_card (suc i) (suc (i + 1)) c.loop-i.position c.after-position.result c.args.play.now i (i + 1) none more next
    c.loop-i-test.true (sym c.legal.ensures ∙ c.if-not-legal.false) c.after-position.ensures

pub returns-then-not-legal : goal.returns-then-not-legal
unfolding none
returns-then-not-legal c =
    let i = c.loop-i.i in
    let next : i + 1 ≡ suc i = omega arith in
    ap Some next
    ∙ sym (c.loop-i.invariant
    ∙ at_card (suc i) c.loop-i.position c.args.play.now i none c.loop-i-test.true (sym c.legal.ensures
    ∙ c.if-not-legal.true))
