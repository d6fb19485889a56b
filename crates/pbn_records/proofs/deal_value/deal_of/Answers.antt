use Rattle.pbn_records.proofs.DealValueLemmas.{if_some_both, if_none_map, deal_of_texts, no_deal_of_texts}
use Rattle.pbn_records.proofs.deal_value.deal_of.Goals as goal

pub returns-in_default-clause-none : goal.returns-in_default-clause-none
returns-in_default-clause-none c = λ hands is. c.in_default.ensures.none _ is.is_own

pub returns-in_default-read_hand-clause-none : goal.returns-in_default-read_hand-clause-none
returns-in_default-read_hand-clause-none c = λ hands is. c.in_default-read_hand.ensures.none _ is.is_left

pub returns-in_default-read_hand-2-clause-none : goal.returns-in_default-read_hand-2-clause-none
returns-in_default-read_hand-2-clause-none c = λ hands is. c.in_default-read_hand-2.ensures.none _ is.is_opposite

pub returns-in_default-read_hand-3-clause-none : goal.returns-in_default-read_hand-3-clause-none
returns-in_default-read_hand-3-clause-none c = λ hands is. c.in_default-read_hand-3.ensures.none _ is.is_right

pub returns-clause-deal : goal.returns-clause-deal
returns-clause-deal c =
    if_some_both c.deal_from.result
    (λ deal is whole. deal_of_texts _ _ _ _ _ _ _ _ _ deal c.in-Some.ensures.hand c.in-Some-read_hand.ensures.hand
    c.in-Some-read_hand-2.ensures.hand c.in-Some-read_hand-3.ensures.hand is whole)
    c.deal_from.ensures.hands c.deal_from.ensures.deal

pub returns-clause-none : goal.returns-clause-none
returns-clause-none c =
    if_none_map c.deal_from.result
    (no_deal_of_texts _ _ _ _ _ _ _ _ _ c.in-Some.ensures.hand c.in-Some-read_hand.ensures.hand
    c.in-Some-read_hand-2.ensures.hand
    c.in-Some-read_hand-3.ensures.hand)
    c.deal_from.ensures.none
