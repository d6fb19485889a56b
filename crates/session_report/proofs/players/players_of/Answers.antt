use Rattle.std.proofs.Common.{rules, ◌≡◌, ◌+◌, ◌<◌, ◌++◌, [], length, take, sym, ap, ◌∙◌}
use Rattle.std.specs.List.{cons_option, filter_map}
use Rattle.session_report.specs.Players.{player_of}
use Rattle.session_report.proofs.ListLemmas.{filter_map_more}
use Rattle.session_report.proofs.players.players_of.Goals as goal

pub loop-account-preserved : goal.loop-account-preserved
loop-account-preserved c =
    let state = c.args.state.now in
    let memberships = c.args.memberships.now in
    let player = player_of state c.in_ok-shown.shown.items memberships in
    let k = c.loop-account.account-index in
    let accounts = c.accounts-account-items.result.now in
    let is : accounts ≡ state.roles.accounts = c.accounts-account-items.ensures.accounts in
    let here : k < length accounts = search rules in
    let found = c.player_of.ensures
    ∙ (λ i. player_of state (c.deref.ensures.value i) memberships (c.account-item.is i)) in
    c.in_ok-push_found.ensures.items
    ∙ ((λ i. (c.loop-account.invariant ∙ ap (λ xs. filter_map player (take k xs)) (sym is)) i
    ++ cons_option (found i) [])
    ∙ (sym (filter_map_more player accounts k c.account-item.result here)
    ∙ ap (λ xs. filter_map player (take (k + 1) xs)) is))
