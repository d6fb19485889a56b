use Rattle.std.proofs.Common.{arith, sym, ◌∙◌}
use Rattle.disclosure_rules.proofs.FirstLemmas.{first_at, no_first_at}
use Rattle.disclosure_rules.proofs.policy.decide.Goals as goal

pub returns-then-forbids : goal.returns-then-forbids
returns-then-forbids c =
    first_at c.args.public.now c.args.viewer.now c.args.fact c.loop-rule.rule-index c.loop-rule-test.true
    (sym c.forbids.ensures ∙ c.if-forbids.true) c.loop-rule.invariant

pub returns : goal.returns
returns c = no_first_at c.args.public.now c.args.viewer.now c.args.fact
    (λ k below. c.loop-rule.invariant k (omega arith))
