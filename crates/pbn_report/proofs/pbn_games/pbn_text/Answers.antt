use Rattle.std.proofs.Common.{ℕ, List, length, map, sym, subst}
use Rattle.std.proofs.lemmas.Result.{IfOk-weaker}
use Rattle.pbn_records.specs.Reads.{Reads}
use Rattle.pbn_report.specs.PbnText.{board_read}
use Rattle.pbn_report.proofs.PbnLemmas.{report_reads_back}
use Rattle.pbn_report.proofs.pbn_games.pbn_text.Goals as goal

pub returns-clause-read_back : goal.returns-clause-read_back
returns-clause-read_back c = λ reported few.
    let report = c.args.report.now in
    IfOk-weaker c.games_text.result _ _
    (λ text is. subst (λ (bytes : List ℕ). Reads bytes (length report.boards) (map board_read report.boards)) (sym is)
    (report_reads_back report reported few)) c.games_text.ensures
