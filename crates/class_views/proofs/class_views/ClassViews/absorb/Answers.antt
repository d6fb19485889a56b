use Rattle.std.proofs.Common.{rules, ◌≡◌, ◌≢◌, ◌≤◌, ℕ, false, length, subst, sym, ap, ◌∙◌}
use Rattle.std.specs.Prelude.{Some}
use Rattle.movement.specs.Movement.{IsSection, boards_of}
use Rattle.session_state.proofs.PartLemmas.{entry_part}
use Rattle.session_state.specs.SessionState.{SessionState, AreLive}
use Rattle.class_views.specs.Kept.{IsChangedAt, IsKeptOf}
use Rattle.class_views.specs.Totals.{may_count, told_board}
use Rattle.class_views.specs.declared.kept.Kept.{Kept}
use Rattle.class_views.proofs.KeptLemmas.{kept_followed, kept_uncounted}
use Rattle.class_views.proofs.class_views.ClassViews.absorb.Goals as goal

pub follow-requires-clause-rows : goal.follow-requires-clause-rows
follow-requires-clause-rows c =
    let before = c.self.inside.state in
    let each : length c.self.inside.kept.rows.items ≡ boards_of c.absorb.new.self.public.movement =
    c.self.invariant.0.each_board
    ∙ sym (ap (λ (s : SessionState). boards_of s.public.movement) c.absorb.ensures
    ∙ ap boards_of (entry_part before c.args.entry.now).movement) in
    search rules

pub invariant_of-self-then-counted : goal.invariant_of-self-then-counted
invariant_of-self-then-counted c =
    let before = c.self.inside.state in
    let entry = c.args.entry.now in
    let kept = c.self.inside.kept in
    let now = c.follow.new.self in
    let applied = c.absorb.ensures in
    let live_after = subst (λ (s : SessionState). AreLive s.public.live s.cells) applied c.follow.ensures.live in (
      subst (λ (s : SessionState). IsKeptOf s now.classes.items now.rows.items) (sym applied)
          (kept_followed before entry c.self.invariant.1.0 c.self.invariant.1.1 live_after kept.classes.items
          now.classes.items kept.rows.items now.rows.items c.self.invariant.0 (search rules)
          (subst (λ (s : SessionState). (own : ℕ) → 1 ≤ own → own ≤ boards_of s.public.movement →
          told_board entry.command ≡ Some own →
          IsChangedAt s own kept.classes.items kept.rows.items now.classes.items now.rows.items) applied
          c.follow.ensures.board)
          (subst (λ (s : SessionState). ((own : ℕ) → 1 ≤ own → own ≤ boards_of s.public.movement →
          told_board entry.command ≢ Some own) → (now.classes.items ≡ kept.classes.items)
          × (now.rows.items ≡ kept.rows.items)) applied
          (λ none. (
            ap (λ (k : Kept). k.classes.items) (c.follow.ensures.none none),
            ap (λ (k : Kept). k.rows.items) (c.follow.ensures.none none),
          )))),
      (c.follow.ensures.section, c.follow.ensures.live),
    )

pub invariant_of-self : goal.invariant_of-self
invariant_of-self c =
    let before = c.self.inside.state in
    let entry = c.args.entry.now in
    let kept = c.self.inside.kept in
    let applied = c.absorb.ensures in
    let live_after = c.may_count-counts.ensures.live in
    let without : may_count before entry.command ≡ false = sym c.may_count-counted.ensures.counts ∙ c.if-counted.false in
    let without_after : may_count c.absorb.new.self entry.command ≡ false =
    sym c.may_count-counts.ensures.counts ∙ c.if-counts.false in (
      subst (λ (s : SessionState). IsKeptOf s kept.classes.items kept.rows.items) (sym applied)
          (kept_uncounted before entry c.self.invariant.1.0 c.self.invariant.1.1
          (subst (λ (s : SessionState). AreLive s.public.live s.cells) applied live_after) kept.classes.items
          kept.rows.items without
          (subst (λ (s : SessionState). may_count s entry.command ≡ false) applied without_after) c.self.invariant.0),
      (
        subst (λ (s : SessionState). IsSection s.public.movement) (sym applied)
            (subst IsSection (sym (entry_part before entry).movement) c.self.invariant.1.0),
        live_after,
      ),
    )
