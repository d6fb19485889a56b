use Rattle.std.proofs.Common.{rules, arith, ◌≡◌, ◌+◌, ℕ, subst}
use Rattle.movement.specs.Movement.{IsSection, boards_of}
use Rattle.disclosure_rules.specs.declared.public.Public.{Public}
use Rattle.std.specs.Prelude.{false, []}
use Rattle.class_views.specs.Kept.{IsKept, earned_to, seen_to}
use Rattle.class_views.proofs.KeptLemmas.{kept_changed_at, kept_first, kept_all, one_more}
use Rattle.class_views.proofs.kept.Kept.open.Goals as goal

pub loop-before-init : goal.loop-before-init
loop-before-init c =
    let state = c.args.state.now in
    let kept = c.in_ok-kept.kept in
    let boards : c.boards-boards.result ≡ boards_of state.public.movement = search rules in
    let none : IsKept (boards_of state.public.movement) (λ class board. false) (λ board. []) kept.classes.items
    kept.rows.items =
    subst (λ (n : ℕ). IsKept n (λ class board. false) (λ board. []) kept.classes.items kept.rows.items) boards
    c.in_ok-kept.ensures in
    let each_class = none.each_class in
    let each_board = none.each_board in
    record {
      classes = search rules;
      rows = search rules;
      kept = kept_first state kept.classes.items kept.rows.items
          none;
    }

pub loop-before-preserved : goal.loop-before-preserved
loop-before-preserved c =
    let state = c.args.state.now in
    let before = c.loop-before.before in
    record {
      classes = c.change.ensures.classes;
      rows = c.change.ensures.rows;
      kept =
          kept_changed_at state (before + 1) (omega arith) (search rules) (subst (λ (public : Public). IsSection public.movement) c.public.ensures.public c.boards-boards.ensures.section) (seen_to state before)
          (seen_to state (before + 1)) (earned_to state before) (earned_to state (before + 1))
          c.loop-before.kept.classes.items c.change.new.self.classes.items c.loop-before.kept.rows.items
          c.change.new.self.rows.items c.loop-before.invariant.kept
          (one_more state before (boards_of state.public.movement)) (search rules) c.change.ensures.changed;
    }

pub returns-clause-kept : goal.returns-clause-kept
returns-clause-kept c =
    let state = c.args.state.now in
    let l = c.loop-before in
    let all : l.before ≡ boards_of state.public.movement = search rules in
    kept_all state l.kept.classes.items l.kept.rows.items
    (subst (λ (n : ℕ). IsKept (boards_of state.public.movement) (seen_to state n) (earned_to state n)
    l.kept.classes.items l.kept.rows.items) all l.invariant.kept)
