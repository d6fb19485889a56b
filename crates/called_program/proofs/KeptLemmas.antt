-- What a journal keeps, in the words of any store.
use Rattle.std.specs.Prelude.{List}
use Rattle.sqlite.specs.View.{doubt}
use Rattle.sqlite.specs.State.{State}
use Rattle.session_commands.specs.declared.entry.Entry.{Entry}
use Rattle.desks.specs.Kept.{LeavesJust}
use Rattle.row_journal.specs.Leaving.{LeavesPublications}
use Rattle.kept_sessions.specs.Kept.{KeepsJust}

pub leaves_just : (s : State) (publications : List (List Entry)) → KeepsJust s publications
    → LeavesJust publications (doubt s.is_clean) (LeavesPublications s)
leaves_just s publications keeps = record { left = keeps.left }
