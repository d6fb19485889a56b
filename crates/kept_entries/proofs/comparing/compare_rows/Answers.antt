use Rattle.std.proofs.Common.{◌+◌, arith}
use Rattle.std.proofs.lemmas.List.Elements.{All-push}
use Rattle.entry_texts.specs.EntryTexts.{texts_of_entry, IsKeepable}
use Rattle.kept_entries.specs.RowTexts.{told_by}
use Rattle.kept_entries.proofs.ReadLemmas.{map_next, row_fault, told_there}
use Rattle.kept_entries.proofs.comparing.compare_rows.Goals as goal

pub returns-in-Err-clause-fault : goal.returns-in-Err-clause-fault
returns-in-Err-clause-fault c = λ told.
    row_fault c.args.rows.now c.rows.place (c.rows.place + 1) c.index-rows-place.result c.in-Err.fault c.rows-test.true
    c.index-rows-place.is (omega arith)
    (c.in-Err.ensures.fault (told_there c.args.rows.now c.args.read.now c.rows.place c.index-rows-place.result
    c.index-read-place.result told c.rows-test.true c.index-rows-place.is c.index-read-place.is))

pub rows-preserved : goal.rows-preserved
rows-preserved c =
    rw c.in-Ok-push.ensures.items (
      All-push IsKeepable c.rows.entries.items c.in-Ok.entry c.rows.invariant.0 c.in-Ok.ensures.keepable,
      map_next told_by texts_of_entry c.args.rows.now c.rows.entries.items c.rows.place c.index-rows-place.result
          c.in-Ok.entry
          c.rows-test.true c.index-rows-place.is c.rows.invariant.1 c.in-Ok.ensures.same,
    )
