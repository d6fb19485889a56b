use Rattle.std.proofs.Common.{rules, ◌≡◌, ◌-◌, false, Some, None, slice_get, sym, ap, ◌∙◌}
use Rattle.std.specs.Prelude.{is_some}
use Rattle.disclosure_rules.specs.declared.fact.Fact.TheVariants as fact
use Rattle.disclosure_rules.specs.Policy.{first_rule}
use Rattle.query_filter.specs.Holds.{holds}
use Rattle.session_queries.specs.Shown.{shown}
use Rattle.published_view.specs.Listing.{facts_for, passes}
use Rattle.published_view.proofs.AnswerLemmas.{listed_by}
use Rattle.published_view.proofs.listing.passes.Goals as goal

pub returns-in-None : goal.returns-in-None
returns-in-None g c =
    let state = (g.S.ShownState.seen c.args.shown_state.now) in
    let free : is_some (first_rule state.public c.args.viewer.now (fact.Hands c.args.board)) ≡ false =
    ap is_some c.requires.allowed in
    let dealt = c.requires.dealt in
    let marked : slice_get state.public.marks (c.args.board - 1) ≡ Some c.marks-marks.result = search rules in
    let none : c.args.filter.now ≡ None = search rules in
    sym (listed_by state c.args.viewer.now c.args.board c.requires.there dealt free c.args.filter.now
    c.marks-marks.result marked
    ∙ ap (λ filter. passes filter (facts_for state.public.movement (shown state c.args.viewer.now) c.args.board
    c.marks-marks.result)) none)

pub returns-in_ok-facts-in-Some : goal.returns-in_ok-facts-in-Some
returns-in_ok-facts-in-Some g c =
    let state = (g.S.ShownState.seen c.args.shown_state.now) in
    let free : is_some (first_rule state.public c.args.viewer.now (fact.Hands c.args.board)) ≡ false =
    ap is_some c.requires.allowed in
    let dealt = c.requires.dealt in
    let marked : slice_get state.public.marks (c.args.board - 1) ≡ Some c.marks-marks.result = search rules in
    let some : c.args.filter.now ≡ Some c.in-Some.filter = search rules in
    c.holds.ensures
    ∙ (ap (holds c.in-Some.filter) c.in_ok-facts-in-Some.ensures
    ∙ sym (listed_by state c.args.viewer.now c.args.board c.requires.there dealt free c.args.filter.now
    c.marks-marks.result marked
    ∙ ap (λ filter. passes filter (facts_for state.public.movement (shown state c.args.viewer.now) c.args.board
    c.marks-marks.result)) some))
