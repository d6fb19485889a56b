use Rattle.connections.proofs.ConversationLemmas.{conversed}
use Rattle.connections.proofs.laws.every_exchange.Goals as goal

pub returns : goal.returns
returns g c opening own exchanges adds exchanged =
    conversed g.K.Keeper.others g.K.Keeper.no_entry g.K.Keeper.not_kept opening own exchanges adds exchanged
