use Rattle.std.proofs.Common.{◌≡◌, All, map, take}
use Rattle.entry_texts.specs.EntryTexts.{IsKeepable, texts_of_entry}
use Rattle.kept_entries.specs.RowTexts.{told_by}
use Rattle.kept_entries.proofs.comparing.compare_rows.Given as goal

abbrev pub invariant-rows : goal.invariant-rows
invariant-rows l =
    All IsKeepable l.entries.items × (map told_by (take l.place l.rows) ≡ map texts_of_entry l.entries.items)
