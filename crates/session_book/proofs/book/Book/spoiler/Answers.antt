use Rattle.std.proofs.Common.{sym, ap, ◌∙◌}
use Rattle.std.specs.Prelude.{option_and_then}
use Rattle.session_book.specs.Exposure.{spoiler_at}
use Rattle.session_book.proofs.ExposureTableLemmas.{nobody_sits}
use Rattle.session_book.proofs.book.Book.spoiler.Goals as goal

pub returns-then-not-has_cell : goal.returns-then-not-has_cell
returns-then-not-has_cell c =
    let ledger = c.args.self.now in
    nobody_sits ledger.opening ledger.journal c.in_ok-cell.cell (c.has_cell.ensures.none c.if-not-has_cell.true)
    ∙ ap (option_and_then (spoiler_at ledger.opening ledger.journal)) (sym c.in_ok-cell.was ∙ c.result_cell.ensures)
