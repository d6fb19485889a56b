use Rattle.event_log.proofs.PlainLemmas.{plain_at}
use Rattle.event_log.proofs.laws.a_name_is_one_word.Goals as goal

pub returns : goal.returns
returns c = λ name k d below. plain_at name k d below
