use Rattle.std.proofs.Common.{◌<◌, length, All, IfOk, arith}
use Rattle.std.proofs.lemmas.List.Elements.{All-weaker}
use Rattle.kept_entries.specs.RowTexts.{IsToldAt}
use Rattle.kept_entries.proofs.ReadLemmas.{told_still}
use Rattle.kept_entries.proofs.solving.solve_all.Goals as goal

pub fill-requires : goal.fill-requires
fill-requires g c =
    let old = c.args.read.now in
    let within : c.shares.place < length c.in_ok-shares.shares.items = omega (arith, c.len-place-end.ensures) in
    let share : IfOk c.index.result.now (λ solved. All (IsToldAt old) solved.items) =
    rw (← c.index.ensures) at (c.in_ok-shares.ensures c.shares.place c.index.result.now within) in
    let solved : All (IsToldAt old) c.in-Ok.solved.items = rw c.in-Ok.is at share in
    rw c.as_slice.ensures.value (All-weaker (IsToldAt old) (IsToldAt c.shares.read)
    (λ it told. told_still c.shares.read old it c.shares.invariant told) c.in-Ok.solved.items solved)
