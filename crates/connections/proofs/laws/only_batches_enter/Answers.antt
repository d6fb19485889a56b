use Rattle.connections.proofs.ConversationLemmas.{only_batches_enter}
use Rattle.connections.proofs.laws.only_batches_enter.Goals as goal

pub returns : goal.returns
returns g c exchange exchanged none =
    only_batches_enter g.K.Keeper.others g.K.Keeper.no_entry g.K.Keeper.not_kept exchange exchanged none
