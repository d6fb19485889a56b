use Rattle.report_texts.proofs.csv_tables.RankingLineWrittenReportStanding.written.Goals as goal

pub returns : goal.returns
returns c =
    c.record.ensures _
    (c.part-9.ensures _ _
    (c.part-8.ensures _ _
    (c.part-7.ensures _ _
    (c.part-6.ensures _ _
    (c.part-5.ensures _ _
    (c.part-4.ensures _ _
    (c.part-3.ensures _ _
    (c.part-2.ensures _ _
    (c.part.ensures _ _
    c.new.ensures
    c.place_text.ensures)
    (c.bytes_of.ensures _ c.to_string.ensures.ok))
    (rw c.first_player-first.ensures at c.player_name.ensures))
    (rw c.first_player-first.ensures at c.player_number.ensures))
    (rw c.second_player-second.ensures at c.player_name-2.ensures))
    (rw c.second_player-second.ensures at c.player_number-2.ensures))
    c.total_text.ensures)
    c.total_text-2.ensures)
    c.percent_text.ensures)
