-- What is kept of every book.
use Rattle.std.specs.Prelude.{◌≡◌, ◌≤◌}
use Rattle.movement.specs.Movement.{boards_of, most_boards}
use Rattle.session_book.specs.declared.book.Book.TheInside.{Inside}
use Rattle.session_book.specs.ExposureTable.{IsNoted}
use Rattle.session_book.specs.Journal.{replay, IsAccepted}

-- the state is the one that the journal leads to, the journal is accepted, the table has who is exposed to what, and
-- there is a bit for each board
pub record IsKeptBook (book : Inside) : Type 0 where
  pub replayed : book.state ≡ replay book.opening book.journal.items
  pub accepted : IsAccepted book.opening book.journal.items
  pub noted : IsNoted book.opening book.journal.items book.state book.exposure
  pub boards : boards_of book.opening.public.movement ≤ most_boards
