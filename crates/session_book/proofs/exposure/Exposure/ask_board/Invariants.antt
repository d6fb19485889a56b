use Rattle.std.proofs.Common.{◌≡◌}
use Rattle.session_commands.specs.declared.touched.Touched.TheVariants.{Board}
use Rattle.session_book.specs.ExposureTable.{IsAsked}
use Rattle.session_book.specs.Touched.{touched_before}
use Rattle.session_book.proofs.exposure.Exposure.ask_board.Given as goal

abbrev pub invariant-loop-place : goal.invariant-loop-place
invariant-loop-place l = record {
  asked : IsAsked l.state (touched_before l.state (Board l.board) l.boards l.place) l.initial.self l.self;
  state : l.sight.state.now ≡ l.state;
  board : l.sight.board ≡ l.board;
}
