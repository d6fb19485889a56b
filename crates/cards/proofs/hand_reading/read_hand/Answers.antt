use Rattle.cards.proofs.HandReadingLemmas.{suits_joined, suits_of, hand_of_suits}
use Rattle.cards.proofs.hand_reading.read_hand.Goals as goal

pub returns-in_default-clause-none : goal.returns-in_default-clause-none
returns-in_default-clause-none c = λ cards h. c.in_default.ensures.none _ _ _ _ (suits_joined cards _ h)

pub returns-in_default-read_holding-clause-none : goal.returns-in_default-read_holding-clause-none
returns-in_default-read_holding-clause-none c = λ cards h.
    c.in_default-read_holding.ensures.none cards (suits_of cards _ _ _ _ _ c.in-Some.ensures.parts h).0

pub returns-in_default-read_holding-2-clause-none : goal.returns-in_default-read_holding-2-clause-none
returns-in_default-read_holding-2-clause-none c = λ cards h.
    c.in_default-read_holding-2.ensures.none cards (suits_of cards _ _ _ _ _ c.in-Some.ensures.parts h).1

pub returns-in_default-read_holding-3-clause-none : goal.returns-in_default-read_holding-3-clause-none
returns-in_default-read_holding-3-clause-none c = λ cards h.
    c.in_default-read_holding-3.ensures.none cards (suits_of cards _ _ _ _ _ c.in-Some.ensures.parts h).2

pub returns-in_default-read_holding-4-clause-none : goal.returns-in_default-read_holding-4-clause-none
returns-in_default-read_holding-4-clause-none c = λ cards h.
    c.in_default-read_holding-4.ensures.none cards (suits_of cards _ _ _ _ _ c.in-Some.ensures.parts h).3

pub returns-clause-hand : goal.returns-clause-hand
returns-clause-hand c =
    let a = c.in-Some-read_holding in
    let b = c.in-Some-read_holding-2 in
    let d = c.in-Some-read_holding-3 in
    let e = c.in-Some-read_holding-4 in
    rw (c.union-3.ensures, c.union-2.ensures, c.union.ensures)
    (hand_of_suits a.spades b.hearts d.diamonds e.clubs _ _ _ _ _ c.in-Some.ensures.parts a.ensures.held a.ensures.only
    b.ensures.held b.ensures.only d.ensures.held d.ensures.only e.ensures.held e.ensures.only)
