use Rattle.std.proofs.Common.{arith}
use Rattle.position_patterns.proofs.UpperLemmas.{upper_all, upper_among}
use Rattle.position_patterns.proofs.pattern.upper.Goals as goal

pub returns-clause-among : goal.returns-clause-among
returns-clause-among c card =
    upper_among c.args.cards c.between-below.result c.difference.result c.without.result c.args.lowest card
    c.between-below.ensures c.difference.ensures c.without.ensures

pub returns-clause-all : goal.returns-clause-all
returns-clause-all c card =
    upper_all c.args.cards c.between-below.result c.difference.result c.without.result c.args.lowest card
    c.between-below.ensures c.difference.ensures c.without.ensures
    (omega (arith, c.if-number-eq0.false, c.number.ensures.number))
