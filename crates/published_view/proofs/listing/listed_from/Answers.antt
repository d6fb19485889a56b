use Rattle.std.proofs.Common.{rules, ◌≡◌, ℕ, ◌+◌, ◌++◌, [], ◌∷◌, sym, ap, ◌∙◌}
use Rattle.std.specs.Prelude.{Bool, cond, ◌&&◌, nat_le, filter}
use Rattle.std.specs.List.{cons_option, range_with_len}
use Rattle.movement.specs.Movement.{boards_of}
use Rattle.session_queries.specs.Shown.{shown}
use Rattle.published_view.specs.Listing.{is_listed, listed_from}
use Rattle.published_view.proofs.ListLemmas.{filter_range_more, found_where}
use Rattle.published_view.proofs.listing.listed_from.Goals as goal

pub returns : goal.returns
unfolding listed_from
returns g c =
    let state = (g.S.ShownState.seen c.args.shown_state.now) in
    let section = state.public.movement in
    let last : c.loop-before.before ≡ boards_of section = search rules in
    c.loop-before.invariant
    ∙ ap (λ n. filter (λ board. nat_le c.args.from board && is_listed section (shown state c.args.viewer.now)
    c.args.filter.now board) (range_with_len 1 n)) last

pub loop-before-preserved : goal.loop-before-preserved
loop-before-preserved g c =
    let state = (g.S.ShownState.seen c.args.shown_state.now) in
    let before = c.loop-before.before in
    let test : ℕ → Bool = λ board. nat_le c.args.from board && is_listed state.public.movement
    (shown state c.args.viewer.now) c.args.filter.now board in
    c.in_ok-push_found.ensures.items
    ∙ ((λ i. c.loop-before.invariant i ++ cons_option (c.then_some.ensures i) [])
    ∙ (ap (λ found. filter test (range_with_len 1 before) ++ found) (found_where c.in_ok-listed.listed (before + 1))
    ∙ ((λ i. filter test (range_with_len 1 before) ++ cond (c.in_ok-listed.ensures i) ((before + 1) ∷ []) [])
    ∙ sym (filter_range_more test before))))
