use Rattle.program.proofs.MemoryLemmas.{answered, ends_in_memory}
use Rattle.program.proofs.laws.answered_whole_over_memory.Goals as goal

pub returns-clause-whole : goal.returns-clause-whole
returns-clause-whole c input before after left done = answered input before after left done

pub returns-clause-otherwise : goal.returns-clause-otherwise
returns-clause-otherwise c input left before after fault ends = ends_in_memory input left before after fault ends
