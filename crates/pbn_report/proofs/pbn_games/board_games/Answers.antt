use Rattle.std.proofs.Common.{◌≡◌, ℕ, List, subst}
use Rattle.std.specs.Prelude.{IfOk}
use Rattle.pbn_export.specs.Tables.{game_text}
use Rattle.pbn_export.specs.Games.{ExportedBoard, board_game}
use Rattle.pbn_report.specs.PbnText.{exported_board}
use Rattle.pbn_report.proofs.PbnLemmas.{rows_listed}
use Rattle.pbn_report.proofs.pbn_games.board_games.Goals as goal

pub returns : goal.returns
returns c =
    subst (λ (all : List ℕ). IfOk c.written_list.result (λ text. text.items ≡ all))
    (rows_listed (λ (board : ExportedBoard). game_text (board_game board)) (exported_board c.args.report.now)
    c.args.boards.now) c.written_list.ensures
