use Rattle.pbn_records.proofs.LawLemmas.{one_reading}
use Rattle.pbn_records.proofs.laws.a_text_is_read_in_one_way.Goals as goal

pub returns : goal.returns
returns c = one_reading
