-- What a display reads, and what it can't have read.
use Rattle.std.specs.Prelude.{◌≡◌, ℕ, ◌<◌, List, length, None}
use Rattle.movement.specs.declared.cell.Cell.{Cell}
use Rattle.disclosure_rules.specs.Seating.{IsSeatedAt}
use Rattle.session_state.specs.SessionState.{SessionState, viewer_of}
use Rattle.session_commands.specs.declared.entry.Entry.{Entry}
use Rattle.session_book.specs.Exposure.{SomeAllowed}
use Rattle.session_book.specs.Journal.{replay}
use Rattle.session_queries.specs.declared.query.Query.{Query}
use Rattle.session_queries.specs.Query.{fact_of}
use Rattle.published_view.specs.History.{IsToldAfter}
use Rattle.published_view.specs.Reply.{before_answer}
use Rattle.published_view.specs.View.{version_of}

-- after a list of entries nothing comes before the answer to a user's query: its board or cell is there, the version is
-- no older than the user wants, and no rule forbids the fact that decides it
abbrev pub GetsAnAnswer : SessionState → List Entry → List ℕ → Query → ℕ → Type 0
GetsAnAnswer opening entries user query since =
    let state = replay opening entries in
    before_answer state.public (version_of entries) (viewer_of state user) (fact_of query) since ≡ None

-- nobody foreknew what was told: whoever was allowed some secret fact of a board after the entries that were seen sits
-- at no cell where a later one of the entries that were told enters or confirms a result of that board (Law 16)
abbrev pub NoForeknowledge : SessionState → List Entry → List Entry → Type 0
NoForeknowledge opening seen told =
    (user : List ℕ) (board : ℕ) (before : List Entry) (cell : Cell) →
    SomeAllowed (replay opening seen) user board → IsToldAfter told (length seen) before cell → cell.board ≡ board →
    ¬ IsSeatedAt (replay opening before).public (viewer_of (replay opening before) user) cell
