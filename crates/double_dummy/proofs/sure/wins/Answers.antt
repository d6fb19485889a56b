use Rattle.std.proofs.Common.{◌∙◌, ap, arith, refl, sym}
use Rattle.table_terms.specs.Strain.{trump_of}
use Rattle.double_dummy.proofs.SureLemmas.{higher_wins, ruff_wins}
use Rattle.double_dummy.proofs.sure.wins.Goals as goal

pub returns-in_default : goal.returns-in_default
returns-in_default c =
    ruff_wins c.args.position.now c.in_ok-trump.trump c.args.led c.args.holder c.hand-hand.result
    c.of_suit-held.result c.of_suit.result c.args.third c.new.result c.in_ok-_ruff._ruff c.requires.opponent
    c.requires.third c.requires.ruff (ap trump_of (sym c.strain.ensures) ∙ sym c.in_ok-trump.ensures)
    c.hand-hand.ensures.hand c.of_suit-held.ensures c.in_default.ensures.none c.of_suit.ensures
    c.in_ok-_ruff.ensures.some

pub returns : goal.returns
returns c =
    higher_wins c.args.position.now c.args.led c.args.holder c.hand-hand.result c.of_suit-held.result c.args.third
    c.upwards.result c.only.result c.top-card.result c.requires.opponent c.requires.third c.requires.ruff
    c.hand-hand.ensures.hand c.of_suit-held.ensures (c.top-card.ensures c.in-Some.ensures.some)
    (omega (arith, c.if-number.false, c.number.ensures.number, c.number-2.ensures.number)) c.upwards.ensures.all
    (c.is_disjoint.ensures.0 c.if-not-is_disjoint.false) ((c.only.ensures c.top-card.result).1 refl)
