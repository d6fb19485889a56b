use Rattle.std.proofs.Common.{
  ◌≡◌,
  ◌+◌,
  ◌≤◌,
  ◌++◌,
  ◌∷◌,
  [],
  ◌∙◌,
  ap,
  sym,
  subst,
  arith,
  suc,
  length,
  drop,
  get_or,
  length-append,
}
use Rattle.cards.specs.declared.card.Card.{Card}
use Rattle.table_terms.specs.declared.suit.Suit.TheVariants.{Spades}
use Rattle.cards.specs.declared.rank.Rank.TheVariants.{Two}
use Rattle.cards.specs.Play.{cards_left}
use Rattle.position_patterns.proofs.RemainderLemmas.{left_without}
use Rattle.double_dummy.proofs.PlayedLemmas.{head_legal, past_card, from_card, one_cost_more, few_after, all_costs}
use Rattle.position_patterns.specs.Remainder.{IsLeftOf}
use Rattle.double_dummy.proofs.card_costs.cost_each.Goals as goal
use Rattle.double_dummy_laws.proofs.NeighbourLemmas.{one_less_after}
use Rattle.cards.specs.DoubleDummy.{cost_list}

none : Card
none = record { suit = Spades; rank = Two }

pub play_card-requires-clause-legal : goal.play_card-requires-clause-legal
unfolding none
play_card-requires-clause-legal c =
    let i = c.loop-card.card-index in
    head_legal (suc i) c.loop-card.position c.args.play.now i none c.loop-card-test.true c.loop-card.invariant.legal

pub loop-card-init : goal.loop-card-init
loop-card-init c = record {
  legal = c.requires.play;
  costs = ap (λ n. n ++ cost_list c.args.start.now c.args.play.now) c.in-Ok.ensures.items;
  before = c.in-Ok-value.ensures.tricks;
  valid = c.value.ensures.valid;
  dealt = c.requires.dealt;
  few = let empty = ap length c.requires.table in omega (arith, c.requires.cards);
  number = omega (arith, c.requires.cards);
  numbers = ap length c.in-Ok.ensures.items;
  counted = c.in-Ok.ensures.len;
  room = c.in-Ok.ensures.capacity;
  spent = omega arith;
  spent_before = c.value.ensures.spent;
}

pub loop-card-preserved : goal.loop-card-preserved
unfolding none
loop-card-preserved c =
    let p = c.loop-card.position in
    let i = c.loop-card.card-index in
    let play = c.args.play.now in
    let card : Card = get_or play i none in
    let before = c.loop-card.invariant in
    let next : i + 1 ≡ suc i = omega arith in
    let more : suc (i + 1) ≡ suc (suc i) = omega arith in
    let may = head_legal (suc i) p play i none c.loop-card-test.true before.legal in
    let played = c.in-Ok-play_card.ensures.played in
    let q = c.in-Ok-play_card.played.position in
    let left = one_less_after p card before.valid may in
    let moved = ap cards_left played.next in
    let longer = ap length c.push_reserved.ensures.items in
    record {
      legal = sym (past_card (suc i) (suc (i + 1)) p q play i
          (i + 1) none more next c.loop-card-test.true may played.next) ∙ before.legal;
      costs =
          one_cost_more (cost_list c.args.start.now play) c.loop-card.numbers.items c.push_reserved.new.self.items p q
          card
          (drop (i + 1) play)
          c.in-Ok-play_card.played.cost
          (ap (λ rest. c.loop-card.numbers.items ++ cost_list p rest)
          (sym (from_card play i (i + 1) none next c.loop-card-test.true)) ∙ before.costs)
          played.cost played.next c.push_reserved.ensures.items;
      before = played.tricks;
      valid = played.valid;
      dealt = subst (λ r. IsLeftOf c.args.patterns.now.whole r.hands) (sym played.next)
          (left_without c.args.patterns.now.whole p.hands card before.dealt);
      few = subst (λ r. cards_left r + length r.table ≤ 52) (sym played.next)
          (few_after p card before.valid may before.few);
      number = omega (arith, before.number, left, moved);
      numbers = longer ∙ length-append c.loop-card.numbers.items (c.in-Ok-play_card.played.cost ∷ [])
          ∙ ap (λ n. n + 1) before.numbers;
      counted = omega (arith, c.push_reserved.ensures.len, before.counted);
      room = omega (arith, c.push_reserved.ensures.capacity, before.room);
      spent = omega (arith, c.play_card.ensures.spent, before.spent);
      spent_before = before.spent_before;
    }

pub of-requires : goal.of-requires
of-requires c =
    let before = c.loop-card.invariant in
    let same = ap length c.deref.ensures.value in
    omega (arith, before.number, before.numbers)

pub returns-clause-costs : goal.returns-clause-costs
returns-clause-costs c =
    c.of.ensures ∙ c.deref.ensures.value
    ∙ all_costs _ c.loop-card.numbers.items c.loop-card.position c.args.play.now c.loop-card.card-index
    c.loop-card-test.false c.loop-card.invariant.costs
