use Rattle.std.proofs.Common.{sym}
use Rattle.std.proofs.lemmas.Bool.{true≢false}
use Rattle.pbn_records.proofs.PartsLemmas.{not_hidden, not_deal}
use Rattle.pbn_records.proofs.deal_value.read_deal.Goals as goal

pub returns-in_default-clause-fault : goal.returns-in_default-clause-fault
returns-in_default-clause-fault c =
    ((λ is. c.in_default.ensures.none _ _ _ _ _ is.has), (λ hands is. c.in_default.ensures.none _ _ _ _ _ is.has))

pub returns-in-Some-deal_of-clause-shown : goal.returns-in-Some-deal_of-clause-shown
returns-in-Some-deal_of-clause-shown c =
    not_hidden _ _ _ _ _ _ c.in-Some.ensures.parts (λ hidden. true≢false (sym (c.if-are_hidden.ensures.1 hidden)))

pub returns-in-None-clause-fault : goal.returns-in-None-clause-fault
returns-in-None-clause-fault c = (
  not_hidden _ _ _ _ _ _ c.in-Some.ensures.parts (λ hidden. true≢false (sym (c.if-are_hidden.ensures.1 hidden))),
  not_deal _ _ _ _ _ _ c.in-Some.ensures.parts c.in-None.ensures.none,
)
