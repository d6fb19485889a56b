use Rattle.program.proofs.PartLemmas.{part_of_cut, part_of_memory, part_of_long, part_of_broken}
use Rattle.program.proofs.laws.a_first_part_before_a_fault.Goals as goal

pub returns-clause-read : goal.returns-clause-read
returns-clause-read c input left before after cut = part_of_cut input left before after cut

pub returns-clause-written : goal.returns-clause-written
returns-clause-written c input left before after broken = part_of_broken input left before after broken

pub returns-clause-too_long : goal.returns-clause-too_long
returns-clause-too_long c input left before after long = part_of_long input left before after long

pub returns-clause-without_memory : goal.returns-clause-without_memory
returns-clause-without_memory c input left before after cut = part_of_memory input left before after cut
