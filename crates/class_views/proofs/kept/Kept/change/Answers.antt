use Rattle.std.proofs.Common.{rules, ◌≡◌, ◌-◌, ◌<◌, ℕ, List, length, get_or, vec_len, subst, ◌∙◌, arith}
use Rattle.std.specs.Prelude.{Some}
use Rattle.std.proofs.lemmas.List.{get_or_default}
use Rattle.disclosure_rules.specs.declared.public.Public.{Public}
use Rattle.scoring.specs.declared.standing.Standing.{Standing}
use Rattle.standings.specs.declared.earning.Earning.{Earning}
use Rattle.class_views.specs.Classes.{class_sees, without_embargo}
use Rattle.class_views.specs.Kept.{AreStandings, IsClassWith}
use Rattle.class_views.specs.Places.{class_at}
use Rattle.class_views.specs.Totals.{earnings_on}
use Rattle.class_views.specs.declared.class_view.ClassView.{ClassView}
use Rattle.class_views.proofs.kept.Kept.change.Goals as goal

pub returns-clause-changed : goal.returns-clause-changed
returns-clause-changed c =
    let state = c.args.state.now in
    let own = c.args.board in
    let classes = c.args.self.now.classes.items in
    let rows = c.args.self.now.rows.items in
    let old = c.index.result.now in
    let row = c.put-2.new.self in
    let each_board : length rows ≡ vec_len c.args.self.now.rows = search rules in
    let within : own - 1 < length rows = omega (arith, c.requires.from, c.requires.to, c.requires.rows, each_board) in
    let are : AreStandings (earnings_on state own) row =
    subst (λ (earnings : List Earning). AreStandings earnings row) (c.earnings.ensures.earnings ∙ c.put.ensures)
    c.put-2.ensures.standings in
    let each : (place : ℕ) (d : ClassView) → place < 36 → IsClassWith own
    (class_sees (without_embargo state.public) (Some (class_at place)) own) old row (get_or classes place d)
    (get_or c.change_each.new.classes.items place d) =
    subst (λ (public : Public). (place : ℕ) (d : ClassView) → place < 36 → IsClassWith own
    (class_sees (without_embargo public) (Some (class_at place)) own) old row (get_or classes place d)
    (get_or c.change_each.new.classes.items place d))
    c.public.ensures.public c.change_each.ensures.classes in
    record {
      row = row;
      earned = are;
      small = c.put-2.ensures.small;
      put = search rules;
      each_class = λ place d e below.
          subst (λ (standings : List Standing). IsClassWith own
          (class_sees (without_embargo state.public) (Some (class_at place)) own) standings row (get_or classes place d)
          (get_or c.change_each.new.classes.items place d))
          (c.index.ensures ∙ get_or_default rows (own - 1) old e within) (each place d below);
    }
