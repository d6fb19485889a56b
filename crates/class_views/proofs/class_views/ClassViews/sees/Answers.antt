use Rattle.std.proofs.Common.{rules, ◌≡◌, true, false, sym, ap, ◌∙◌, get_or}
use Rattle.std.specs.Prelude.{Some, None, ◌&&◌, is_none}
use Rattle.disclosure_rules.specs.Policy.{first_rule}
use Rattle.disclosure_rules.specs.declared.fact.Fact.TheVariants.{Hands}
use Rattle.disclosure_rules.specs.declared.public.Public.{Public}
use Rattle.session_state.specs.SessionState.{SessionState}
use Rattle.movement.specs.Movement.{has_board}
use Rattle.small_sets.specs.Numbers.{has_number}
use Rattle.class_views.specs.Classes.{class_of, is_shown_boards}
use Rattle.class_views.specs.declared.class_view.ClassView.{ClassView}
use Rattle.class_views.proofs.QueryLemmas.{board_from, board_to, closed_sees, sees_by_class, sees_kept}
use Rattle.class_views.proofs.class_views.ClassViews.sees.Goals as goal

pub returns-then-is_shown_boards : goal.returns-then-is_shown_boards
returns-then-is_shown_boards c =
    let state = c.self.inside.state in
    let viewer = c.args.viewer.now in
    let board = c.args.board in
    let class = c.in-Some.class in
    let classes = c.self.inside.kept.classes.items in
    let has : has_board state.public.movement board ≡ true =
    ap (λ (state : SessionState). has_board state.public.movement board) c.self.view_is ∙ c.requires in
    let of_class : class_of viewer ≡ Some class = search rules in
    let shown : is_shown_boards state.public class ≡ true =
    sym (c.is_shown_boards.ensures ∙ ap (λ (public : Public). is_shown_boards public class) c.public.ensures.public)
    ∙ c.if-is_shown_boards.true in
    c.contains.ensures.has
    ∙ (ap (λ (kept : ClassView). has_number kept.boards board) c.index.ensures
    ∙ (ap (λ b. b && has_number (get_or classes c.place.result c.index.result.now).boards board) (sym shown)
    ∙ (sees_kept state classes c.self.inside.kept.rows.items c.self.invariant.0 class c.place.result board
    c.index.result.now c.place.ensures.place c.place.ensures.below
    (board_from state.public.movement board has) (board_to state.public.movement board has)
    ∙ (sees_by_class state viewer board c.self.invariant.1.0 (Some class) of_class
    ∙ ap (λ (state : SessionState). is_none (first_rule state.public viewer (Hands board))) c.self.view_is))))

pub returns-else-is_shown_boards : goal.returns-else-is_shown_boards
returns-else-is_shown_boards c =
    let state = c.self.inside.state in
    let viewer = c.args.viewer.now in
    let board = c.args.board in
    let class = c.in-Some.class in
    let of_class : class_of viewer ≡ Some class = search rules in
    let closed : is_shown_boards state.public class ≡ false =
    sym (c.is_shown_boards.ensures ∙ ap (λ (public : Public). is_shown_boards public class) c.public.ensures.public)
    ∙ c.if-is_shown_boards.false in
    c.if-is_shown_boards.false
    ∙ (sym (closed_sees state class board closed)
    ∙ (sees_by_class state viewer board c.self.invariant.1.0 (Some class) of_class
    ∙ ap (λ (state : SessionState). is_none (first_rule state.public viewer (Hands board))) c.self.view_is))

pub returns-in-None : goal.returns-in-None
returns-in-None c =
    let none : class_of c.args.viewer.now ≡ None = search rules in
    sees_by_class c.self.inside.state c.args.viewer.now c.args.board c.self.invariant.1.0 None none
    ∙ ap (λ (state : SessionState). is_none (first_rule state.public c.args.viewer.now (Hands c.args.board)))
    c.self.view_is
