use Rattle.std.proofs.Common.{rules, false, ◌≡◌, ◌∙◌}
use Rattle.disclosure_rules.specs.Seating.{PlaysBoard, is_complete}
use Rattle.class_views.specs.Classes.{member_of}
use Rattle.class_views.specs.declared.user_class.UserClass.TheVariants.{OfPair}
use Rattle.class_views.proofs.ClassSightLemmas.{over_for_nobody, over_where_none, over_where_seated}
use Rattle.class_views.proofs.class_sight.ClassSight.is_over_for.Goals as goal

pub returns-then-not-self : goal.returns-then-not-self
returns-then-not-self c =
    let sight = c.args.self.now in
    let incomplete : is_complete sight.public.now sight.board ≡ false = search (sight.complete, c.if-not-self.true) in
    over_for_nobody sight.public.now c.args.pair sight.board (sight.unplayed c.if-self.true) incomplete

pub returns-in-Some : goal.returns-in-Some
returns-in-Some c =
    let sight = c.args.self.now in
    let own = c.in-Some.ensures in
    c.contains.ensures
    ∙ over_where_seated sight.public.now (member_of (OfPair c.args.pair)) sight.board c.in-Some.cell
    (is_complete sight.public.now sight.board) own.seat own.board own.none own.section

pub returns-in-None : goal.returns-in-None
returns-in-None c =
    let sight = c.args.self.now in
    let own = c.in-None.ensures in
    let none : ¬ PlaysBoard sight.public.now (member_of (OfPair c.args.pair)) sight.board = search rules in
    sight.complete
    ∙ over_where_none sight.public.now (member_of (OfPair c.args.pair)) sight.board
    (is_complete sight.public.now sight.board) own.seat own.board none
