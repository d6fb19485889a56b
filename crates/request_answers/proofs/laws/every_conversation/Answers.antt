use Rattle.request_answers.proofs.ConversingLemmas.{conversation_told}
use Rattle.request_answers.proofs.laws.every_conversation.Goals as goal

pub returns : goal.returns
returns g c opening stops = conversation_told g.K.Keeper.others opening stops
