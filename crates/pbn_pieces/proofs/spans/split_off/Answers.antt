use Rattle.std.proofs.Common.{List, ℕ, take, sym, ap, ◌∙◌, arith}
use Rattle.pbn_pieces.specs.Kinds.{is_of_kind}
use Rattle.pbn_pieces.proofs.SplitLemmas.{split_at, split_all, to_end}
use Rattle.pbn_pieces.proofs.spans.split_off.Goals as goal

pub returns-then-not-has : goal.returns-then-not-has
returns-then-not-has c =
    ap (λ (rest : List ℕ). (take c.loop-i.i c.args.bytes.now, rest)) (to_end c.loop-i.i c.args.bytes.now)
    ∙ split_at (is_of_kind c.args.kind) c.args.bytes.now c.loop-i.i (omega arith) c.loop-i.invariant
    (sym c.has.ensures ∙ c.if-not-has.true)

pub returns : goal.returns
returns c = split_all (is_of_kind c.args.kind) c.args.bytes.now (λ k h. c.loop-i.invariant k (omega (arith, h)))
