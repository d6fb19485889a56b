use Rattle.pbn_report.proofs.pbn_games.TotalRowWrittenReportStanding.written.Goals as goal

pub returns : goal.returns
returns c =
    c.finish.ensures _
    (c.text.ensures _
    (c.part-5.ensures _ _
    (c.part-4.ensures _ _
    (c.part-3.ensures _ _
    (c.part-2.ensures _ _
    (c.part.ensures _ _
    c.new.ensures
    (c.first_item.ensures _ c.place_text.ensures))
    (c.next_item.ensures _ (c.bytes_of.ensures _ c.to_string.ensures.ok)))
    (c.next_item-2.ensures _ c.total_text-points.ensures))
    (c.next_item-3.ensures _ c.percent_text-percentage.ensures))
    (c.next_item-4.ensures _ c.pair_names-names.ensures)))
