use Rattle.report_texts.proofs.players.joined_names.Goals as goal

pub returns : goal.returns
returns c =
    c.finish.ensures _
    (c.part-2.ensures _ _ (c.text.ensures _ (c.part.ensures _ _ c.new.ensures c.player_name.ensures)) c.player_name-2.ensures)
