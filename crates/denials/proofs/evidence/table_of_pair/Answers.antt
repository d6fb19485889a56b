use Rattle.denials.proofs.TableLemmas.{table_of_own_cell, no_table}
use Rattle.denials.proofs.evidence.table_of_pair.Goals as goal

pub returns-in-Some : goal.returns-in-Some
returns-in-Some c =
    table_of_own_cell c.args.movement.now c.args.pair c.args.board c.in-Some.cell c.in-Some.ensures.section
    c.in-Some.ensures.board c.in-Some.ensures.seat

pub returns-in-None : goal.returns-in-None
returns-in-None c = no_table c.args.movement.now c.args.pair c.args.board c.in-None.ensures.none
