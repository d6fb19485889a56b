use Rattle.kept_entries.specs.RowTexts.{IsToldAt}
use Rattle.kept_entries.proofs.ReadLemmas.{told_still}
use Rattle.kept_entries.proofs.solving.fill.Goals as goal

pub put-requires : goal.put-requires
put-requires c =
    let told : IsToldAt c.args.read.now c.one-item.result =
    rw (← c.one-item.is) at (c.requires c.solved.one-index c.one-item.result c.solved-test.true) in
    told_still c.solved.read c.args.read.now c.one-item.result c.solved.invariant told
