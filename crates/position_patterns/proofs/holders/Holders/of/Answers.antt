use Rattle.std.proofs.Common.{subst, sym}
use Rattle.cards.specs.Play.{IsApart}
use Rattle.position_patterns.proofs.holders.Holders.of.Goals as goal

pub returns-clause-apart : goal.returns-clause-apart
returns-clause-apart c =
    subst IsApart
    (λ i. record {
      north = sym c.hand.ensures.hand i;
      east = sym c.hand-2.ensures.hand i;
      south = sym c.hand-3.ensures.hand i;
      west = sym c.hand-4.ensures.hand i;
    })
    c.hand.ensures.position.apart
