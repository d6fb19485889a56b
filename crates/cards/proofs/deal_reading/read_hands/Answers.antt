use Rattle.cards.proofs.DealReadingLemmas.{parts_after_colon, hands_of, deal_of_hands}
use Rattle.cards.proofs.deal_reading.read_hands.Goals as goal

pub returns-in_default-in_four-clause-none : goal.returns-in_default-in_four-clause-none
returns-in_default-in_four-clause-none c = λ hands h.
    c.in_default-in_four.ensures.none _ _ _ _ (parts_after_colon hands c.args.text.now _ c.in-Some.first h
    c.in-Some.ensures.first)

pub returns-in_default-read_hand-clause-none : goal.returns-in_default-read_hand-clause-none
returns-in_default-read_hand-clause-none c = λ hands h.
    c.in_default-read_hand.ensures.none _ (hands_of hands c.args.text.now _ _ _ _ _ c.in-Some.first h
    c.in-Some.ensures.first c.in-Some-in_four.ensures.parts).0

pub returns-in_default-read_hand-2-clause-none : goal.returns-in_default-read_hand-2-clause-none
returns-in_default-read_hand-2-clause-none c = λ hands h.
    c.in_default-read_hand-2.ensures.none _ (hands_of hands c.args.text.now _ _ _ _ _ c.in-Some.first h
    c.in-Some.ensures.first c.in-Some-in_four.ensures.parts).1

pub returns-in_default-read_hand-3-clause-none : goal.returns-in_default-read_hand-3-clause-none
returns-in_default-read_hand-3-clause-none c = λ hands h.
    c.in_default-read_hand-3.ensures.none _ (hands_of hands c.args.text.now _ _ _ _ _ c.in-Some.first h
    c.in-Some.ensures.first c.in-Some-in_four.ensures.parts).2

pub returns-in_default-read_hand-4-clause-none : goal.returns-in_default-read_hand-4-clause-none
returns-in_default-read_hand-4-clause-none c = λ hands h.
    c.in_default-read_hand-4.ensures.none _ (hands_of hands c.args.text.now _ _ _ _ _ c.in-Some.first h
    c.in-Some.ensures.first c.in-Some-in_four.ensures.parts).3

pub returns-clause-hands : goal.returns-clause-hands
returns-clause-hands c =
    let a = c.in-Some-read_hand in
    let b = c.in-Some-read_hand-2 in
    let d = c.in-Some-read_hand-3 in
    let e = c.in-Some-read_hand-4 in
    deal_of_hands c.in-Some.first a.own b.left d.opposite e.right c.args.text.now c.in-Some.rest.now _ _ _ _
    c.in-Some.ensures.first c.in-Some-in_four.ensures.parts a.ensures.hand b.ensures.hand d.ensures.hand e.ensures.hand
