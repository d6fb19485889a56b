use Rattle.named_movements.proofs.HowellLemmas.{meets, plays}
use Rattle.named_movements.proofs.laws.in_a_howell_all_meet.Goals as goal

pub returns-clause-pairs : goal.returns-clause-pairs
returns-clause-pairs c = meets

pub returns-clause-sets : goal.returns-clause-sets
returns-clause-sets c = plays
