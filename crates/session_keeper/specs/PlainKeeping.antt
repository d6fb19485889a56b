-- A view beside a book.
use Rattle.std.specs.Prelude.{◌≡◌, ◌≤◌, List, take, length}
use Rattle.session_commands.specs.declared.entry.Entry.{Entry}
use Rattle.session_state.specs.SessionState.{SessionState}
use Rattle.session_book.specs.Journal.{IsAccepted}
use Rattle.session_book.specs.Replay.{replay}
use Rattle.published_view.specs.View.{Seen, StandsFor}
use Rattle.session_keeper.specs.declared.plain_keeper.PlainKeeper.TheInside.{Inside}

-- the view stands for the book's journal, which is accepted
pub record IsUpToDate (keeper : Inside) : Type 0 where
  pub stands : StandsFor keeper.book.opening keeper.book.journal keeper.view
  pub accepted : IsAccepted keeper.book.opening keeper.book.journal

-- ---- for private clauses

-- a view has taken in the first entries of a journal
pub record IsBehind (opening : SessionState) (journal : List Entry) (seen : Seen) : Type 0 where
  pub within : seen.version ≤ length journal
  pub state : seen.state ≡ replay opening (take seen.version journal)
