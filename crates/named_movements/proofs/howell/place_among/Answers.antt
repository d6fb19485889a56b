use Rattle.std.proofs.Common.{length, sym, arith}
use Rattle.std.specs.Prelude.{nat_eq}
use Rattle.std.proofs.lemmas.Bool.{eq-eqb}
use Rattle.std.proofs.lemmas.List.Sums.{position_or_len_is}
use Rattle.named_movements.proofs.howell.place_among.Goals as goal

pub returns-then-pair-other : goal.returns-then-pair-other
returns-then-pair-other c =
    sym (position_or_len_is (nat_eq c.args.pair) c.args.pairs.now c.loop-place.place 0 (omega arith)
    c.loop-place.invariant (λ within. eq-eqb _ _ c.if-pair-other.true))

pub returns : goal.returns
returns c =
    sym (position_or_len_is (nat_eq c.args.pair) c.args.pairs.now (length c.args.pairs.now) 0 (omega arith)
    (λ k below. c.loop-place.invariant k (omega arith)) (λ within. absurd (omega arith)))
