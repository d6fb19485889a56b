use Rattle.mitchell.proofs.RoundLemmas.{table_of_moved}
use Rattle.mitchell.proofs.arithmetic.east_west_at.Goals as goal

pub returns-clause-at : goal.returns-clause-at
returns-clause-at c =
    rw c.moved.ensures
    (table_of_moved c.args.tables c.args.table c.args.round c.requires.table c.requires.round)
