use Rattle.session_book.specs.ExposureTable.{IsAsked, first_users}
use Rattle.session_book.proofs.exposure.Exposure.ask_all.Given as goal

abbrev pub invariant-loop-place : goal.invariant-loop-place
invariant-loop-place l = IsAsked l.state (first_users l.place l.boards) l.initial.self l.self
