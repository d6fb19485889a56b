-- Boards that have the numbers from one on.
use Rattle.std.proofs.Common.{◌≡◌, ℕ, ◌+◌, List, [], ◌∷◌, ◌++◌, length, arith, refl, ◌∙◌}
use Rattle.cards.specs.Hands.{IsDeal}
use Rattle.session_report.specs.declared.board_report.BoardReport.{BoardReport}
use Rattle.session_report.specs.Report.{AreReported}

-- and one more behind them
pub numbered_more : (first : ℕ) (boards : List BoardReport) (board : BoardReport) → AreReported first boards →
    board.number ≡ first + length boards → IsDeal board.deal → AreReported first (boards ++ board ∷ [])
numbered_more first [] board before is deal =
    let here : first + 0 ≡ first = omega arith in (is ∙ here, deal, tt)
numbered_more first (one ∷ boards) board before is deal =
    let next : first + length (one ∷ boards) ≡ first + 1 + length boards = omega arith in
    (before.0, before.1, numbered_more (first + 1) boards board before.2 (is ∙ next) deal)

pub one_longer : (boards : List BoardReport) (board : BoardReport) → length (boards ++ board ∷ []) ≡ length boards + 1
one_longer [] board = refl
one_longer (one ∷ boards) board = let more = one_longer boards board in omega (arith, more)
