use Rattle.pbn_records.proofs.RefusalLemmas.{one_refusal, no_refusal}
use Rattle.pbn_records.proofs.laws.a_text_is_refused_for_one_reason.Goals as goal

pub returns-clause-one : goal.returns-clause-one
returns-clause-one c = one_refusal

pub returns-clause-read : goal.returns-clause-read
returns-clause-read c = no_refusal
