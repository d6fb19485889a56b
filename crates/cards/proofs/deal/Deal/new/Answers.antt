use Rattle.std.proofs.lemmas.Bool.{iff_false}
use Rattle.cards.proofs.HandsLemmas.{counts_of_deal, pairs_of_deal, deal_from_parts}
use Rattle.cards.proofs.deal.Deal.new.Goals as goal

pub returns-then-not-all_have_thirteen-clause-err : goal.returns-then-not-all_have_thirteen-clause-err
returns-then-not-all_have_thirteen-clause-err c =
    λ deal. iff_false c.all_have_thirteen.ensures c.if-not-all_have_thirteen.true (counts_of_deal _ deal)

pub returns-then-not-no_two_share-clause-err : goal.returns-then-not-no_two_share-clause-err
returns-then-not-no_two_share-clause-err c =
    λ deal. iff_false c.no_two_share.ensures c.if-not-no_two_share.true (pairs_of_deal _ deal)

pub invariant_of-result : goal.invariant_of-result
invariant_of-result c =
    deal_from_parts _ (c.all_have_thirteen.ensures.0 c.if-not-all_have_thirteen.false)
    (c.no_two_share.ensures.0 c.if-not-no_two_share.false)

pub returns-clause-deal : goal.returns-clause-deal
returns-clause-deal c =
    deal_from_parts _ (c.all_have_thirteen.ensures.0 c.if-not-all_have_thirteen.false)
    (c.no_two_share.ensures.0 c.if-not-no_two_share.false)
