use Rattle.std.proofs.Common.{◌≡◌, ℕ, ◌<◌, false}
use Rattle.session_book.specs.Exposure.{spoils}
use Rattle.session_book.specs.ExposureTable.{user_at}
use Rattle.session_book.specs.Journal.{state_of}
use Rattle.session_book.proofs.book.Book.spoiler_at.Given as goal

abbrev pub invariant-loop-place : goal.invariant-loop-place
invariant-loop-place l = (k : ℕ) → k < l.place → spoils l.self.opening l.self.journal l.cell
    (user_at (state_of l.self) k) ≡ false
