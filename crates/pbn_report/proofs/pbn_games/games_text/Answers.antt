use Rattle.pbn_report.specs.PbnText.{pbn_text}
use Rattle.pbn_report.proofs.pbn_games.games_text.Goals as goal

pub returns : goal.returns
unfolding pbn_text
returns c =
    c.finish.ensures _
    (c.part-3.ensures _ _
    (c.part-2.ensures _ _
    (c.part.ensures _ _ c.new.ensures c.header.ensures)
    c.all_games.ensures)
    c.totals_game.ensures)
