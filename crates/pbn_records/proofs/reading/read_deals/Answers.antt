use Rattle.pbn_records.proofs.ReadsLemmas.{reads_of, missing_of, readable}
use Rattle.pbn_records.proofs.reading.read_deals.Goals as goal

pub returns-in-Some-clause-refused : goal.returns-in-Some-clause-refused
returns-in-Some-clause-refused c = missing_of _ _ _ c.in-Ok.state c.in-Ok.ensures.read c.in-Some.ensures.some

pub returns-in-Some-board_set-clause-set : goal.returns-in-Some-board_set-clause-set
returns-in-Some-board_set-clause-set c =
    reads_of _ _ c.in-Ok.state _ c.in-Ok.ensures.read c.in_default.ensures.none c.in-Some-board_set.ensures

pub returns-clause-refused : goal.returns-clause-refused
returns-clause-refused c = readable _ _ c.in-Ok.state c.in-Ok.ensures.read c.in_default.ensures.none
