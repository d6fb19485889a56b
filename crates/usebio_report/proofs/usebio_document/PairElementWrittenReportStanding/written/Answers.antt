use Rattle.usebio_report.proofs.usebio_document.PairElementWrittenReportStanding.written.Goals as goal

pub returns : goal.returns
returns c =
    c.finish.ensures _
    (c.text-2.ensures _
    (c.part-7.ensures _ _
    (c.part-6.ensures _ _
    (c.part-5.ensures _ _
    (c.part-4.ensures _ _
    (c.part-3.ensures _ _
    (c.part-2.ensures _ _
    (c.part.ensures _ _
    (c.text.ensures _
    c.new.ensures)
    (c.element.ensures _ c.pair_number.ensures))
    (c.element-2.ensures _ c.side_value.ensures))
    (c.element-3.ensures _ c.place_text-place.ensures))
    (c.element-4.ensures _ c.total_text-points.ensures))
    (c.element-5.ensures _ c.percent_text-percentage.ensures))
    (rw c.first_player-first.ensures at c.player_element.ensures))
    (rw c.second_player-second.ensures at c.player_element-2.ensures)))
