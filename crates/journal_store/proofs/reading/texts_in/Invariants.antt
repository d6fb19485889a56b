use Rattle.std.proofs.Common.{◌≡◌, map, take, length}
use Rattle.journal_store.specs.Tables.{entry_rows}
use Rattle.journal_store.specs.Kept.{texts_of, AreInOrder, last_publication}
use Rattle.journal_store.proofs.reading.texts_in.Given as goal

abbrev pub invariant-rows : goal.invariant-rows
invariant-rows l =
    (length l.rows.items ≡ l.place) × (take l.place l.shown ≡ entry_rows 1 (map texts_of l.rows.items))
    × AreInOrder 0 (map texts_of l.rows.items) × (l.last ≡ last_publication 0 (map texts_of l.rows.items))
