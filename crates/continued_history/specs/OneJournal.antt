-- Histories that tell of one journal.
use Rattle.std.specs.Prelude.{List}
use mathlib.Core.List.{IsPrefix}
use Rattle.session_commands.specs.declared.entry.Entry.{Entry}
use Rattle.session_state.specs.SessionState.{SessionState}
use Rattle.session_book.specs.Journal.{IsAccepted}
use Rattle.published_view.specs.World.{Moment, IsHistory, now}

-- two histories of a session have come to beginnings of one accepted journal. So it is with what two displays tell of,
-- whether in one run of a server, or in two of which the later one begins with all that the earlier one published
pub record AreOfOneJournal (opening : SessionState) (one other : List Moment) : Type 0 where
  pub journal : List Entry
  pub accepted : IsAccepted opening journal
  pub one_happened : IsHistory opening one
  pub one_begins : IsPrefix (now one).journal journal
  pub other_happened : IsHistory opening other
  pub other_begins : IsPrefix (now other).journal journal
