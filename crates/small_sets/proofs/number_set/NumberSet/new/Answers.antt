use Rattle.small_sets.proofs.NumberBitsLemmas.{none_of_no_bits}
use Rattle.small_sets.proofs.number_set.NumberSet.new.Goals as goal

pub returns : goal.returns
returns g c = none_of_no_bits g.row.MOST
