use Rattle.report_texts.specs.CsvText.{csv_text}
use Rattle.report_texts.proofs.csv_tables.csv_text.Goals as goal

pub returns : goal.returns
unfolding csv_text
returns c =
    c.finish.ensures _
    (c.part-8.ensures _ _
    (c.part-7.ensures _ _
    (c.text-3.ensures _
    (c.part-6.ensures _ _
    (c.part-5.ensures _ _
    (c.text-2.ensures _
    (c.part-4.ensures _ _
    (c.part-3.ensures _ _
    (c.text.ensures _
    (c.part-2.ensures _ _
    (c.part.ensures _ _
    c.new.ensures
    c.occasion_columns.ensures)
    c.session_record.ensures))
    c.ranking_columns.ensures)
    c.ranking_lines.ensures))
    c.result_columns.ensures)
    c.all_results.ensures))
    c.board_columns.ensures)
    c.board_lines.ensures)
