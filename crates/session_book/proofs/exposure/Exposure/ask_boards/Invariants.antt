use Rattle.session_book.specs.ExposureTable.{IsAsked, first_boards}
use Rattle.session_book.proofs.exposure.Exposure.ask_boards.Given as goal

abbrev pub invariant-loop-k : goal.invariant-loop-k
invariant-loop-k l = IsAsked l.state (first_boards l.place l.k) l.initial.self l.self
