use Rattle.std.proofs.Common.{sym, ◌∙◌, arith}
use Rattle.denials.proofs.TableLemmas.{first_awaited, none_awaited}
use Rattle.denials.proofs.evidence.awaited_table.Goals as goal

pub returns-then-is_awaited : goal.returns-then-is_awaited
returns-then-is_awaited c =
    let public = c.args.public.now in
    first_awaited public.movement public.live c.args.board c.loop-below.below (omega arith)
    (sym c.if-is_awaited.true ∙ c.is_awaited.ensures) c.loop-below.invariant

pub returns : goal.returns
returns c =
    let public = c.args.public.now in
    none_awaited public.movement public.live c.args.board (λ k within. c.loop-below.invariant k (omega arith))
