use Rattle.std.proofs.Common.{map}
use Rattle.journal_store.specs.Kept.{texts_of}
use Rattle.kept_entries.specs.KeptRows.{AreCounted, lists_in}
use Rattle.kept_entries.proofs.GroupLemmas.{Grouped, InTurn}
use Rattle.kept_entries.proofs.grouping.group_entries.Given as goal

abbrev pub invariant-rows : goal.invariant-rows
invariant-rows l =
    Grouped (map texts_of l.rows) l.place (lists_in l.published.items) l.last.items
    × (AreCounted 0 (map texts_of l.rows)
    → InTurn (map texts_of l.rows) l.place (lists_in l.published.items) l.last.items)
