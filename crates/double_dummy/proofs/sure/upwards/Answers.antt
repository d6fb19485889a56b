use Rattle.std.proofs.Common.{refl, arith}
use Rattle.double_dummy.proofs.SureLemmas.{ace_of, from_up}
use Rattle.double_dummy.proofs.sure.upwards.Goals as goal

pub returns-clause-up : goal.returns-clause-up
returns-clause-up c =
    (from_up c.args.lowest (ace_of c.args.lowest.suit) c.between-cards.result c.insert.new.self c.insert-2.new.self
    refl refl (omega (arith, c.if-number.false, c.number.ensures, c.number-2.ensures)) c.between-cards.ensures
    c.insert.ensures c.insert-2.ensures).0

pub returns-clause-all : goal.returns-clause-all
returns-clause-all c =
    (from_up c.args.lowest (ace_of c.args.lowest.suit) c.between-cards.result c.insert.new.self c.insert-2.new.self
    refl refl (omega (arith, c.if-number.false, c.number.ensures, c.number-2.ensures)) c.between-cards.ensures
    c.insert.ensures c.insert-2.ensures).1
