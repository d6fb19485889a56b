use Rattle.pbn_report.proofs.pbn_games.ScoreRowWrittenReportResultRow.written.Goals as goal

pub returns : goal.returns
returns c =
    c.finish.ensures _
    (c.text.ensures _
    (c.part-13.ensures _ _
    (c.part-12.ensures _ _
    (c.part-11.ensures _ _
    (c.part-10.ensures _ _
    (c.part-9.ensures _ _
    (c.part-8.ensures _ _
    (c.part-7.ensures _ _
    (c.part-6.ensures _ _
    (c.part-5.ensures _ _
    (c.part-4.ensures _ _
    (c.part-3.ensures _ _
    (c.part-2.ensures _ _
    (c.part.ensures _ _
    c.new.ensures
    (c.first_item.ensures _ (c.bytes_of.ensures _ c.to_string.ensures.ok)))
    (c.next_item.ensures _ (c.bytes_of-2.ensures _ c.to_string-2.ensures.ok)))
    (c.next_item-2.ensures _ (c.bytes_of-3.ensures _ c.to_string-3.ensures.ok)))
    (c.next_item-3.ensures _ c.row_contract.ensures))
    (c.next_item-4.ensures _ c.row_declarer.ensures))
    (c.next_item-5.ensures _ c.row_tricks.ensures))
    (c.next_item-6.ensures _ c.row_score.ensures))
    (c.next_item-7.ensures _ c.earned_text-north_south.ensures))
    (c.next_item-8.ensures _ c.earned_text-east_west.ensures))
    (c.next_item-9.ensures _ c.north_south_percent.ensures))
    (c.next_item-10.ensures _ c.east_west_percent.ensures))
    (c.next_item-11.ensures _ c.pair_names.ensures))
    (c.next_item-12.ensures _ c.pair_names-2.ensures)))
