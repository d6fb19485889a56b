use Rattle.std.proofs.Common.{◌≡◌, All, map, take}
use Rattle.entry_texts.specs.EntryTexts.{IsKeepable}
use Rattle.journal_store.specs.Kept.{texts_of}
use Rattle.kept_entries.specs.KeptRows.{row_in}
use Rattle.kept_entries.proofs.writing.row_texts.Given as goal

abbrev pub invariant-entries : goal.invariant-entries
invariant-entries l =
    (map texts_of l.rows.items ≡ map (row_in l.publication) (take l.place l.entries))
    × All IsKeepable (take l.place l.entries)
