use Rattle.pbn_report.specs.PbnText.{optimum_rows}
use Rattle.pbn_report.proofs.pbn_games.optimum_table.Goals as goal

pub returns : goal.returns
returns c = c.table.ensures (optimum_rows c.args.tricks.now) c.found_tricks.ensures
