use Rattle.movement.proofs.ApartLemmas.{same_at_table, same_in_round}
use Rattle.movement.proofs.laws.one_row_a_round.Goals as goal

pub returns-clause-table : goal.returns-clause-table
returns-clause-table c limits rows first second sound in_first in_second =
    same_at_table limits rows first second sound in_first in_second

pub returns-clause-pair : goal.returns-clause-pair
returns-clause-pair c limits rows first second pair sound in_first in_second =
    same_in_round limits rows first second sound in_first in_second pair
