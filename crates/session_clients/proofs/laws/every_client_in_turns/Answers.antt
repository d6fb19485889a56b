use Rattle.std.proofs.Common.{sym, ◌∙◌}
use Rattle.connections.proofs.ConversationLemmas.{conversed}
use Rattle.session_clients.proofs.laws.every_client_in_turns.Goals as goal

pub returns : goal.returns
returns g c opening own connections places journal own_now served adds =
    let (stops, each, conversation, history, is, told, added) =
    conversed g.K.Keeper.others g.K.Keeper.no_entry g.K.Keeper.not_kept opening own served.transcript.exchanges adds
    served.exchanged in
    (stops, each, conversation, history, is, told, sym served.entered ∙ added)
