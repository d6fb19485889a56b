use Rattle.session_state.proofs.NumberRefusalLemmas.{numbers_permitted, numbers_name_nobody}
use Rattle.session_state.proofs.laws.numbers_need_no_permission.Goals as goal

pub returns-clause-permitted : goal.returns-clause-permitted
returns-clause-permitted c = numbers_permitted

pub returns-clause-known : goal.returns-clause-known
returns-clause-known c = numbers_name_nobody
