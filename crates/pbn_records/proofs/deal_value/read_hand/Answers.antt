use Rattle.std.proofs.lemmas.Str.{IsUtf8-from_ascii}
use Rattle.std.proofs.Common.{subst, sym}
use Rattle.cards.specs.HandReading.{IsHandText}
use Rattle.pbn_records.proofs.DealValueLemmas.{hand_is_ascii}
use Rattle.pbn_records.proofs.deal_value.read_hand.Goals as goal

pub returns-in_default-clause-none : goal.returns-in_default-clause-none
returns-in_default-clause-none c = λ cards is. c.in_default.ensures.cases.0
    (IsUtf8-from_ascii _ (hand_is_ascii cards _ is))

pub returns-in-Err-clause-none : goal.returns-in-Err-clause-none
returns-in-Err-clause-none c = λ cards is.
    c.in-Err.ensures.value.1 cards (subst (IsHandText cards) (sym c.in-Ok.ensures.cases.0) is)
