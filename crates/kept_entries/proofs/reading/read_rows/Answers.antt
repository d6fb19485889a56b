use Rattle.std.proofs.Common.{[], ◌∷◌, ◌+◌, subst, length-append, arith}
use Rattle.std.proofs.lemmas.List.{take_all}
use Rattle.kept_entries.specs.RowTexts.{AreTold}
use Rattle.kept_entries.proofs.ReadLemmas.{row_fault, told_next}
use Rattle.kept_entries.proofs.reading.read_rows.Goals as goal

pub returns-in-Err-clause-fault : goal.returns-in-Err-clause-fault
returns-in-Err-clause-fault c =
    row_fault c.args.rows.now c.rows.place (c.rows.place + 1) c.index-rows-place.result c.in-Err.fault c.rows-test.true
    c.index-rows-place.is (omega arith) c.in-Err.ensures.fault

pub returns-clause-told : goal.returns-clause-told
returns-clause-told c =
    subst (λ l. AreTold l c.rows.read.items) (take_all c.rows.place c.args.rows.now (omega arith)) c.rows.invariant.1

pub rows-preserved : goal.rows-preserved
rows-preserved c =
    rw c.in-Ok-push_copy.ensures (
      omega (arith, length-append c.rows.read.items (c.in-Ok.told ∷ []), c.rows.invariant.0),
      told_next c.args.rows.now c.rows.read.items c.rows.place c.index-rows-place.result c.in-Ok.told c.rows-test.true
          c.index-rows-place.is c.rows.invariant.1 c.in-Ok.ensures.told,
    )
