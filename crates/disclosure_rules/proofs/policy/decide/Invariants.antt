use Rattle.std.proofs.Common.{◌≡◌, ℕ, ◌<◌, false, get_or}
use Rattle.disclosure_rules.specs.declared.rule.Rule.TheVariants.{NoAccount}
use Rattle.disclosure_rules.specs.Policy.{forbids}
use Rattle.disclosure_rules.proofs.policy.decide.Given as goal

-- no rule so far forbids the fact
abbrev pub invariant-loop-rule : goal.invariant-loop-rule
invariant-loop-rule l = (k : ℕ) → k < l.rule-index → forbids (get_or l.rule-items k NoAccount) l.public l.viewer l.fact
    ≡ false
