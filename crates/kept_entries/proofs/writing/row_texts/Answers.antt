use Rattle.std.proofs.Common.{All, subst, sym, arith}
use Rattle.std.proofs.lemmas.List.{take_all}
use Rattle.std.proofs.lemmas.List.Elements.{All-more}
use Rattle.entry_texts.specs.EntryTexts.{IsKeepable}
use Rattle.journal_store.specs.Kept.{texts_of}
use Rattle.kept_entries.specs.KeptRows.{row_in}
use Rattle.kept_entries.proofs.ReadLemmas.{map_next}
use Rattle.kept_entries.proofs.writing.row_texts.Goals as goal

pub returns-clause-keepable : goal.returns-clause-keepable
returns-clause-keepable c =
    subst (All IsKeepable) (take_all c.entries.place c.args.entries.now (omega arith)) c.entries.invariant.1

pub entries-preserved : goal.entries-preserved
entries-preserved c =
    let entry = c.index-entries-place.result in (
      rw c.in_ok-push.ensures.items (sym (map_next
          (row_in c.args.publication) texts_of c.args.entries.now c.entries.rows.items c.entries.place entry
          c.in_ok-row.row c.entries-test.true c.index-entries-place.is (sym c.entries.invariant.0)
          (sym c.in_ok-row.ensures.row))),
      All-more IsKeepable c.args.entries.now c.entries.place entry c.entries-test.true c.entries.invariant.1
          (subst IsKeepable c.index-entries-place.is c.in_ok-row.ensures.keepable),
    )
