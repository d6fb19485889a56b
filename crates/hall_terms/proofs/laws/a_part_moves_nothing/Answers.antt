use Rattle.hall_terms.proofs.laws.a_part_moves_nothing.Goals as goal

pub returns : goal.returns
returns c idle at until history waits = rw waits
