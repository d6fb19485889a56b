use Rattle.movement.proofs.ApartLemmas.{same_at_set, same_opponents}
use Rattle.movement.proofs.laws.nobody_meets_again.Goals as goal

pub returns-clause-set : goal.returns-clause-set
returns-clause-set c limits rows first second pair sound in_first in_second =
    same_at_set limits rows first second sound in_first in_second pair

pub returns-clause-opponent : goal.returns-clause-opponent
returns-clause-opponent c limits rows first second pair other sound in_first in_second =
    same_opponents limits rows first second sound in_first in_second pair other
