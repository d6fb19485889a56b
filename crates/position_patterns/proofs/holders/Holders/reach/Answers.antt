use Rattle.std.proofs.Common.{◌∙◌, ap, sym, arith}
use Rattle.std.proofs.lemmas.Bool.{and_from, true≢false}
use Rattle.std.specs.FinSet as set
use Rattle.cards.specs.Card.{card_cmp}
use Rattle.position_patterns.proofs.SetLemmas.{in_common}
use Rattle.position_patterns.proofs.TopsLemmas.{holding_length}
use Rattle.position_patterns.proofs.UpperLemmas.{from_of, reach_from, reach_nothing}
use Rattle.position_patterns.proofs.holders.Holders.reach.Goals as goal

pub returns-in_default-clause-reach : goal.returns-in_default-clause-reach
returns-in_default-clause-reach c =
    reach_nothing c.args.known c.args.self.now c.args.suit (λ card known held.
    true≢false (sym (in_common _ _ _ _ c.difference.ensures c.difference-2.ensures card
    ∙ and_from _ _ (ap (λ s. set.contains s card) c.held-held.ensures ∙ held) known)
    ∙ ap (λ s. set.contains s card) (c.in_default.ensures.none) ∙ set.contains-empty card_cmp card))

pub returns-clause-reach : goal.returns-clause-reach
returns-clause-reach c =
    reach_from c.args.known c.args.self.now c.args.suit c.in-Some.lowest c.upper.result
    (from_of c.args.self.now c.args.suit c.in-Some.lowest c.held-held.result c.upper.result c.held-held.ensures
    c.upper.ensures.among c.upper.ensures.all)
    (λ card known held. c.in-Some.ensures.first card
    (in_common _ _ _ _ c.difference.ensures c.difference-2.ensures card
    ∙ and_from _ _ (ap (λ s. set.contains s card) c.held-held.ensures ∙ held) known))
    c.len.result c.len.ensures.cards

pub returns-clause-few : goal.returns-clause-few
returns-clause-few c =
    omega (arith, (returns-clause-reach c).within, holding_length c.args.self.now c.args.suit)
