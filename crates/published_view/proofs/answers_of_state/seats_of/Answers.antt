use Rattle.std.proofs.Common.{rules, ◌≡◌, ◌+◌, ◌<◌, ◌++◌, [], length, take, sym, ap, ◌∙◌}
use Rattle.std.specs.List.{cons_option, filter_map}
use Rattle.session_state.specs.Readers.{seated_of}
use Rattle.published_view.proofs.ListLemmas.{filter_map_more}
use Rattle.published_view.proofs.answers_of_state.seats_of.Goals as goal

pub loop-account-preserved : goal.loop-account-preserved
loop-account-preserved c =
    let state = c.args.state.now in
    let k = c.loop-account.account-index in
    let accounts = c.accounts-account-items.result.now in
    let is : accounts ≡ state.roles.accounts = c.accounts-account-items.ensures.accounts in
    let here : k < length accounts = search rules in
    c.in_ok-push_found.ensures.items
    ∙ ((λ i. (c.loop-account.invariant ∙ ap (λ xs. filter_map (seated_of state) (take k xs)) (sym is)) i
    ++ cons_option ((c.seated.ensures ∙ ap (seated_of state) c.account-item.is) i) [])
    ∙ (sym (filter_map_more (seated_of state) accounts k c.account-item.result here)
    ∙ ap (λ xs. filter_map (seated_of state) (take (k + 1) xs)) is))
