use Rattle.std.proofs.Common.{◌≡◌, true, false, sym, ap, ◌∙◌, get_or}
use Rattle.std.specs.Prelude.{Some}
use Rattle.disclosure_rules.specs.declared.public.Public.{Public}
use Rattle.session_state.specs.SessionState.{SessionState}
use Rattle.class_views.specs.Classes.{is_shown_boards}
use Rattle.class_views.specs.Totals.{total_for}
use Rattle.class_views.specs.declared.class_view.ClassView.{ClassView}
use Rattle.class_views.proofs.QueryLemmas.{nothing_total_shown, total_kept}
use Rattle.class_views.proofs.class_views.ClassViews.class_total.Goals as goal

pub returns-then-is_shown_boards : goal.returns-then-is_shown_boards
returns-then-is_shown_boards c =
    let state = c.self.inside.state in
    let class = c.args.class in
    let classes = c.self.inside.kept.classes.items in
    let shown : is_shown_boards state.public class ≡ true =
    sym (c.is_shown_boards.ensures ∙ ap (λ (public : Public). is_shown_boards public class) c.public.ensures.public)
    ∙ c.if-is_shown_boards.true in
    c.at.ensures c.at.result
    ∙ (ap (λ (kept : ClassView). get_or kept.totals c.place_of.result c.at.result) c.index.ensures
    ∙ (total_kept state classes c.self.inside.kept.rows.items c.self.invariant.0 class c.args.pair c.place.result
    c.place_of.result c.index.result.now c.at.result c.place.ensures.place c.place.ensures.below
    c.place_of.ensures.place c.place_of.ensures.below shown
    ∙ ap (λ (state : SessionState). total_for state (Some class) c.args.pair) c.self.view_is))

pub returns-else-is_shown_boards : goal.returns-else-is_shown_boards
returns-else-is_shown_boards c =
    let state = c.self.inside.state in
    let class = c.args.class in
    let closed : is_shown_boards state.public class ≡ false =
    sym (c.is_shown_boards.ensures ∙ ap (λ (public : Public). is_shown_boards public class) c.public.ensures.public)
    ∙ c.if-is_shown_boards.false in
    c.nothing_earned.ensures
    ∙ (nothing_total_shown state class c.args.pair closed
    ∙ ap (λ (state : SessionState). total_for state (Some class) c.args.pair) c.self.view_is)
