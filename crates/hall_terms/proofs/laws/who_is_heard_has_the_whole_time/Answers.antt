use Rattle.hall_terms.proofs.laws.who_is_heard_has_the_whole_time.Goals as goal

pub returns : goal.returns
returns c idle at history none = rw none
