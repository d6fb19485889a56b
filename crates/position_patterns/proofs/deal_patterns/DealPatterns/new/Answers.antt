use Rattle.position_patterns.proofs.KeptLemmas.{all_added}
use Rattle.position_patterns.proofs.deal_patterns.DealPatterns.new.Goals as goal
use Rattle.position_patterns.specs.Remainder.{IsTrueRemainder}

pub masks-preserved : goal.masks-preserved
masks-preserved c =
    all_added (IsTrueRemainder c.args.whole.now) _ _ c.remainder_of-remainder.result c.in_ok-push.ensures.items
    c.masks.invariant c.remainder_of-remainder.ensures

pub invariant_of-result : goal.invariant_of-result
invariant_of-result c = record { true_slots = c.masks.invariant }

pub returns : goal.returns
returns c = record {
  apart = c.requires;
  part = λ place card held. held;
}
