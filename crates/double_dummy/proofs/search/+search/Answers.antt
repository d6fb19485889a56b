use Rattle.std.proofs.Common.{◌∙◌, ◌-◌, ap, sym, subst, arith, refl, not}
use Rattle.std.proofs.lemmas.Bool.{and_parts, true≢false}
use Rattle.double_dummy.proofs.search.+search.Goals as goal
use Rattle.position_patterns.proofs.SetLemmas.{in_difference}
use Rattle.cards.specs.Hands.{hand_of}
use Rattle.cards.specs.Play.{cards_left, legal}
use Rattle.double_dummy.proofs.BoundLemmas.{too_many}
use Rattle.double_dummy.proofs.LiveLemmas.{live_after}
use Rattle.position_patterns.proofs.RemainderLemmas.{left_without}
use Rattle.double_dummy.proofs.SearchLemmas.{
  fewer_untried,
  found_decided,
  found_forced,
  found_next,
  found_refused,
  is_legal,
  is_turn,
  known_more,
  none_in,
  nothing_left,
  of_either,
  other_bool,
  refused_step,
  same_bool,
  some_in,
}
use Rattle.position_patterns.proofs.SetLemmas.{in_first, in_second}
use Rattle.position_patterns.specs.Remainder.{IsLeftOf}
use Rattle.double_dummy_laws.proofs.CountLemmas.{fewer_after}
use Rattle.double_dummy_laws.specs.Found.{IsFound, wanted_answer}
use Rattle.table_terms.specs.Place.{side_of}

pub explore-returns-then-is_empty-clause-found : goal.explore-returns-then-is_empty-clause-found
explore-returns-then-is_empty-clause-found t c =
    let playable = is_legal c.args.position.now c.trick-trick.ensures c.leader.ensures c.turn-player.ensures
    c.hand-mine.ensures.hand c.legal-playable.ensures in
    nothing_left c.args.position.now c.args.target c.new.result c.requires.target (sym playable
    ∙ c.is_empty.ensures.0 c.if-is_empty.true)

pub explore-returns-then-is_empty-clause-visit : goal.explore-returns-then-is_empty-clause-visit
explore-returns-then-is_empty-clause-visit t c card there some =
    let playable = is_legal c.args.position.now c.trick-trick.ensures c.leader.ensures c.turn-player.ensures
    c.hand-mine.ensures.hand c.legal-playable.ensures in
    absurd (none_in (legal c.args.position.now) card (sym playable ∙ c.is_empty.ensures.0 c.if-is_empty.true) there)

pub explore-search-requires : goal.explore-search-requires
explore-search-requires t c =
    let fewer = fewer_after c.args.position.now c.in-Some-best.card
    (c.loop-card.invariant.untried c.in-Some-best.card c.in-Some-best.ensures.some) in
    let same = ap cards_left c.after-next.ensures in
    let d = c.decreases in (
      omega (arith, fewer, same, d),
      (
        subst (λ q. IsLeftOf c.args.patterns.now.whole q.hands) (sym c.after-next.ensures)
            (left_without c.args.patterns.now.whole c.args.position.now.hands c.in-Some-best.card c.requires.left),
        live_after c.args.position.now c.after-next.result c.args.live c.in-Some-best.card c.after-next.ensures
            (c.loop-card.invariant.untried c.in-Some-best.card c.in-Some-best.ensures.some) c.requires.live,
      ),
    )

pub explore-returns-then-found-wanted-clause-found : goal.explore-returns-then-found-wanted-clause-found
explore-returns-then-found-wanted-clause-found t c =
    let p = c.args.position.now in
    let found = subst (λ b. IsFound c.after-next.result (c.args.target - c.point.result) c.in-Ok-search.found.known b)
    (same_bool _ _ c.if-found-wanted.true) c.in-Ok-search.ensures.found in
    found_decided p c.args.target c.in-Some-best.card c.in-Ok-search.found.known c.union-decisive.result
    c.wants-wanted.result
    (c.loop-card.invariant.untried c.in-Some-best.card c.in-Some-best.ensures.some)
    (λ ownership. known_more ownership _ _ _ _ _ (in_second _ _ _ c.union-decisive.ensures)
    (c.decisive.ensures ownership))
    (in_first _ _ _ c.union-decisive.ensures)
    (c.wants-wanted.ensures ∙ ap (λ place. wanted_answer (side_of place))
    (is_turn c.args.position.now c.trick-trick.ensures c.leader.ensures c.turn-player.ensures))
    (found_next p c.after-next.result c.args.target _ c.point.result c.in-Some-best.card _ _ c.after-next.ensures
    (c.point.ensures.point _ c.after-next.ensures) refl found)

pub explore-loop-card-smaller : goal.explore-loop-card-smaller
explore-loop-card-smaller t c =
    fewer_untried c.loop-card.untried c.difference-untried.result c.union.result c.in-Some-best.card
    c.in-Some-best.ensures.some (in_first _ _ _ c.union.ensures c.in-Some-best.card c.run_of-run.ensures.itself)
    (in_difference _ _ _ c.difference-untried.ensures)

pub explore-loop-card-preserved : goal.explore-loop-card-preserved
explore-loop-card-preserved t c = record {
  untried = λ card rest. c.loop-card.invariant.untried card
      (and_parts _ _ (sym (in_difference _ _ _ c.difference-untried.ensures card) ∙ rest)).0;
  spent = omega (arith, c.search.ensures.spent, c.loop-card.invariant.spent);
  refused =
      let p = c.args.position.now in
      let found = subst (λ b. IsFound c.after-next.result (c.args.target - c.point.result) c.in-Ok-search.found.known b)
      (other_bool _ _ c.if-found-wanted.false) c.in-Ok-search.ensures.found in
      refused_step p c.args.target c.loop-card.untried c.difference-untried.result c.loop-card.known
      c.learnt-known.result c.in-Ok-search.found.known c.union-decisive.result c.run_of-run.result
      c.spoken_for-spoken.result c.union.result c.in-Some-best.card (not c.wants-wanted.result)
      c.loop-card.invariant.refused
      (c.loop-card.invariant.untried c.in-Some-best.card c.in-Some-best.ensures.some)
      (found_next p c.after-next.result c.args.target _ c.point.result c.in-Some-best.card _ _ c.after-next.ensures
      (c.point.ensures.point _ c.after-next.ensures) refl found)
      (λ ownership. known_more ownership _ _ _ _ _ (in_second _ _ _ c.union-decisive.ensures)
      (c.decisive.ensures ownership))
      c.run_of-run.ensures.run c.run_of-run.ensures.itself c.spoken_for-spoken.ensures
      (in_first _ _ _ c.union-decisive.ensures)
      c.learnt-known.ensures.known c.learnt-known.ensures.decisive c.learnt-known.ensures.run
      (of_either _ _ _ c.union.ensures) (in_difference _ _ _ c.difference-untried.ensures);
}

pub explore-returns-clause-found : goal.explore-returns-clause-found
explore-returns-clause-found t c =
    let some = some_in (legal c.args.position.now)
    (λ e. true≢false (sym (c.is_empty.ensures.1 (is_legal c.args.position.now c.trick-trick.ensures c.leader.ensures
    c.turn-player.ensures c.hand-mine.ensures.hand c.legal-playable.ensures ∙ e)) ∙ c.if-is_empty.false)) in
    found_refused c.args.position.now c.args.target c.loop-card.untried c.loop-card.known _ some.0 some.1
    c.in_default-best.ensures.none c.loop-card.invariant.refused

pub at_start-returns-then-tricks_left-target-clause-found : goal.at_start-returns-then-tricks_left-target-clause-found
at_start-returns-then-tricks_left-target-clause-found t c =
    let few = c.if-tricks_left-target.true in
    let count = c.tricks_left-tricks_left.ensures.quarter in
    too_many c.args.position.now c.args.target _ (omega arith)

pub at_start-store-requires-clause-found : goal.at_start-store-requires-clause-found
at_start-store-requires-clause-found t c = c.in-Ok-explore.ensures.found

pub explore-after-next-requires : goal.explore-after-next-requires
explore-after-next-requires t c = c.loop-card.invariant.untried c.in-Some-best.card c.in-Some-best.ensures.some

pub explore-run_of-run-requires-clause-others : goal.explore-run_of-run-requires-clause-others
explore-run_of-run-requires-clause-others t c = c.others-others.ensures

pub explore-run_of-run-requires-clause-playable : goal.explore-run_of-run-requires-clause-playable
explore-run_of-run-requires-clause-playable t c =
    is_legal c.args.position.now c.trick-trick.ensures c.leader.ensures c.turn-player.ensures c.hand-mine.ensures.hand
    c.legal-playable.ensures

pub explore-run_of-run-requires-clause-legal : goal.explore-run_of-run-requires-clause-legal
explore-run_of-run-requires-clause-legal t c = c.loop-card.invariant.untried c.in-Some-best.card
    c.in-Some-best.ensures.some

pub explore-spoken_for-spoken-requires-clause-playable : goal.explore-spoken_for-spoken-requires-clause-playable
explore-spoken_for-spoken-requires-clause-playable t c =
    is_legal c.args.position.now c.trick-trick.ensures c.leader.ensures c.turn-player.ensures c.hand-mine.ensures.hand
    c.legal-playable.ensures

pub explore-spoken_for-spoken-requires-clause-legal : goal.explore-spoken_for-spoken-requires-clause-legal
explore-spoken_for-spoken-requires-clause-legal t c = c.loop-card.invariant.untried c.in-Some-best.card
    c.in-Some-best.ensures.some

pub at_start-find-requires-clause-same : goal.at_start-find-requires-clause-same
at_start-find-requires-clause-same t c = c.of-holders.ensures.hands

pub at_start-find-requires-clause-pattern : goal.at_start-find-requires-clause-pattern
at_start-find-requires-clause-pattern t c = c.pattern-pattern.ensures

pub at_start-store-requires-clause-same : goal.at_start-store-requires-clause-same
at_start-store-requires-clause-same t c = c.of-holders.ensures.hands

pub at_start-store-requires-clause-apart : goal.at_start-store-requires-clause-apart
at_start-store-requires-clause-apart t c = c.of-holders.ensures.apart

pub at_start-store-requires-clause-pattern : goal.at_start-store-requires-clause-pattern
at_start-store-requires-clause-pattern t c = c.pattern-pattern.ensures

pub explore-returns-in_default-search-clause-err : goal.explore-returns-in_default-search-clause-err
explore-returns-in_default-search-clause-err t c = c.in_default-search.ensures.err

pub at_start-pattern-pattern-requires : goal.at_start-pattern-pattern-requires
at_start-pattern-pattern-requires t c =
    subst (IsLeftOf c.args.patterns.now.whole) (sym c.of-holders.ensures.hands) c.requires.left

pub at_start-returns-in-Some-clause-found : goal.at_start-returns-in-Some-clause-found
at_start-returns-in-Some-clause-found t c = c.in-Some.ensures

pub at_start-returns-in-Some-find-clause-found : goal.at_start-returns-in-Some-find-clause-found
at_start-returns-in-Some-find-clause-found t c = c.in-Some-find.ensures

pub at_start-returns-in_default-explore-clause-err : goal.at_start-returns-in_default-explore-clause-err
at_start-returns-in_default-explore-clause-err t c = c.in_default-explore.ensures.err

pub at_start-returns-clause-found : goal.at_start-returns-clause-found
at_start-returns-clause-found t c = c.in-Ok-explore.ensures.found

pub forced-search-requires : goal.forced-search-requires
forced-search-requires t c =
    let fewer = fewer_after c.args.position.now c.args.card c.requires.legal in
    let same = ap cards_left c.after-next.ensures in
    let d = c.decreases in (
      omega (arith, fewer, same, d),
      (
        subst (λ q. IsLeftOf c.args.patterns.now.whole q.hands) (sym c.after-next.ensures)
            (left_without c.args.patterns.now.whole c.args.position.now.hands c.args.card c.requires.left),
        live_after c.args.position.now c.after-next.result c.args.live c.args.card c.after-next.ensures
            c.requires.legal c.requires.live,
      ),
    )

pub forced-returns-clause-found : goal.forced-returns-clause-found
forced-returns-clause-found t c =
    let p = c.args.position.now in
    found_forced p c.args.target c.args.card c.in-Ok.found.known c.union-decisive.result c.in-Ok.found.holds
    c.requires.legal c.requires.only
    (λ ownership. known_more ownership _ _ _ _ _ (in_second _ _ _ c.union-decisive.ensures)
    (c.decisive.ensures ownership))
    (in_first _ _ _ c.union-decisive.ensures)
    (found_next p c.after-next.result c.args.target _ c.point.result c.args.card _ _ c.after-next.ensures
    (c.point.ensures.point _ c.after-next.ensures) refl c.in-Ok.ensures.found)

pub explore-others-others-requires-clause-mine : goal.explore-others-others-requires-clause-mine
explore-others-others-requires-clause-mine t c = c.hand-mine.ensures.hand ∙ ap (hand_of c.args.position.now.hands)
    (is_turn c.args.position.now c.trick-trick.ensures c.leader.ensures c.turn-player.ensures)
