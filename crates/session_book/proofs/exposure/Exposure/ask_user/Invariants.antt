use Rattle.session_commands.specs.declared.touched.Touched.TheVariants.{User}
use Rattle.session_book.specs.ExposureTable.{IsAsked}
use Rattle.session_book.specs.Touched.{touched_before}
use Rattle.session_book.proofs.exposure.Exposure.ask_user.Given as goal

abbrev pub invariant-loop-place : goal.invariant-loop-place
invariant-loop-place l = IsAsked l.state (touched_before l.state (User l.name) l.boards l.place) l.initial.self l.self
