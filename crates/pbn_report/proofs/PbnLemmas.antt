-- Rows and games that are made of the parts of a report, and that its boards are read back.
use Rattle.std.proofs.Common.{◌≡◌, ℕ, ◌+◌, ◌≤◌, List, [], ◌∷◌, ◌++◌, length, map, refl, sym, ap, subst}
use Rattle.std.specs.List.{concat}
use Rattle.std.proofs.lemmas.List.{length-map}
use Rattle.pbn_records.specs.Reads.{Reads}
use Rattle.pbn_records.specs.declared.board.Board.{Board}
use Rattle.pbn_export.specs.Games.{ExportedBoard}
use Rattle.pbn_export.specs.Export.{AreExported, export_text}
use Rattle.pbn_export.proofs.ReadLemmas.{reads_back}
use Rattle.session_report.specs.declared.board_report.BoardReport.{BoardReport}
use Rattle.session_report.specs.declared.report.Report.{Report}
use Rattle.session_report.specs.Report.{AreReported}
use Rattle.pbn_report.specs.PbnText.{board_read, exported_board, pbn_text, totals_game}

-- what is made of each item and then written is what is written of each item
pub rows_listed : {A B : Type 0} (write : B → List ℕ) (make : A → B) (xs : List A) →
    concat (map (λ x. write (make x)) xs) ≡ concat (map write (map make xs))
rows_listed write make [] = refl
rows_listed write make (x ∷ xs) = ap (λ more. write (make x) ++ more) (rows_listed write make xs)

-- the boards of a report are such as can be exported
are_exported : (report : Report) (number : ℕ) (boards : List BoardReport) → AreReported number boards →
    AreExported number (map (exported_board report) boards)
are_exported report number [] reported = tt
are_exported report number (board ∷ boards) reported =
    (reported.0, reported.1, refl, are_exported report (number + 1) boards reported.2)

same_boards : (report : Report) (boards : List BoardReport) →
    map (λ (b : ExportedBoard). b.board) (map (exported_board report) boards) ≡ map board_read boards
same_boards report [] = refl
same_boards report (board ∷ boards) = ap (λ more. board_read board ∷ more) (same_boards report boards)

pub report_reads_back : (report : Report) → AreReported 1 report.boards → length report.boards ≤ 128 →
    Reads (pbn_text report) (length report.boards) (map board_read report.boards)
unfolding pbn_text
report_reads_back report reported few =
    let boards = map (exported_board report) report.boards in
    let many : length boards ≡ length report.boards = length-map report.boards _ in
    subst (λ n. Reads (export_text boards (totals_game report)) n (map board_read report.boards)) many
    (subst (λ (set : List Board). Reads (export_text boards (totals_game report)) (length boards) set)
    (same_boards report report.boards)
    (reads_back boards (totals_game report) (are_exported report 1 report.boards reported)
    (subst (λ n. n ≤ 128) (sym many) few) refl))
