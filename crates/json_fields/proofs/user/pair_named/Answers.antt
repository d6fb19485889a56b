use Rattle.json_fields.proofs.UserLemmas.{pair_found, no_pair_found}
use Rattle.json_fields.proofs.user.pair_named.Goals as goal

pub returns-in-Ok : goal.returns-in-Ok
returns-in-Ok c = pair_found c.args.word.now c.in-Ok.pair c.in-Ok.ensures.value.0

pub returns-in-Err : goal.returns-in-Err
returns-in-Err c = no_pair_found c.args.word.now c.in-Err.ensures.value.1
