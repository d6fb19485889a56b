use Rattle.std.proofs.Common.{◌≡◌, take}
use Rattle.session_book.specs.ExposureTable.{IsNoted}
use Rattle.session_book.specs.Journal.{replay}
use Rattle.session_book.proofs.book.replay.Given as goal

abbrev pub invariant-loop-entry : goal.invariant-loop-entry
invariant-loop-entry l =
    (l.state ≡ replay l.fn.opening (take l.entry-index l.fn.journal))
    × IsNoted l.fn.opening (take l.entry-index l.fn.journal) l.state l.exposure
