use Rattle.std.proofs.Common.{◌≡◌, ◌∙◌, ap, sym, refl, Some, None}
use Rattle.cards.specs.DoubleDummy.{first_illegal}
use Rattle.double_dummy.proofs.BoundLemmas.{deal_cards}
use Rattle.double_dummy.proofs.card_costs.costs_from.Goals as goal

pub returns-in-Some-clause-not_a_play : goal.returns-in-Some-clause-not_a_play
returns-in-Some-clause-not_a_play c number is =
    let same : Some c.in-Some.number ≡ Some number = c.in-Some.ensures
    ∙ ap (λ p. first_illegal 1 p c.args.play.now) c.start-start.ensures ∙ is in
    (cc, refl)

pub returns-in-Some-clause-first : goal.returns-in-Some-clause-first
returns-in-Some-clause-first c number same =
    sym (c.in-Some.ensures ∙ ap (λ p. first_illegal 1 p c.args.play.now) c.start-start.ensures) ∙ (cc)

pub returns-in-Some-clause-empty : goal.returns-in-Some-clause-empty
returns-in-Some-clause-empty c empty =
    let none : Some c.in-Some.number ≡ None = c.in-Some.ensures ∙ ap (first_illegal 1 c.start-start.result) empty in
    absurd (cc)

pub returns-in-Some-clause-no_budget : goal.returns-in-Some-clause-no_budget
returns-in-Some-clause-no_budget c spent some legal =
    let none : Some c.in-Some.number ≡ None = c.in-Some.ensures
    ∙ ap (λ p. first_illegal 1 p c.args.play.now) c.start-start.ensures ∙ legal in
    absurd (cc)

pub returns-then-is_empty-clause-legal : goal.returns-then-is_empty-clause-legal
returns-then-is_empty-clause-legal c =
    sym (c.in_default.ensures ∙ ap (λ p. first_illegal 1 p c.args.play.now) c.start-start.ensures)

pub returns-then-is_empty-clause-not_a_play : goal.returns-then-is_empty-clause-not_a_play
returns-then-is_empty-clause-not_a_play c number is =
    let none : None ≡ Some number = c.in_default.ensures
    ∙ ap (λ p. first_illegal 1 p c.args.play.now) c.start-start.ensures ∙ is in
    absurd (cc)

pub returns-then-left-eq0-clause-not_a_play : goal.returns-then-left-eq0-clause-not_a_play
returns-then-left-eq0-clause-not_a_play c number is =
    let none : None ≡ Some number = c.in_default.ensures
    ∙ ap (λ p. first_illegal 1 p c.args.play.now) c.start-start.ensures ∙ is in
    absurd (cc)

pub returns-clause-not_a_play : goal.returns-clause-not_a_play
returns-clause-not_a_play c number is =
    let none : None ≡ Some number = c.in_default.ensures
    ∙ ap (λ p. first_illegal 1 p c.args.play.now) c.start-start.ensures ∙ is in
    absurd (cc)

pub cost_play-requires-clause-play : goal.cost_play-requires-clause-play
cost_play-requires-clause-play c = sym c.in_default.ensures

pub cost_play-requires-clause-apart : goal.cost_play-requires-clause-apart
cost_play-requires-clause-apart c = c.dealt.ensures.apart

pub cost_play-requires-clause-cards : goal.cost_play-requires-clause-cards
cost_play-requires-clause-cards c =
    deal_cards c.start-start.result c.args.deal c.args.strain c.args.declarer c.start-start.ensures
    c.dealt.ensures.deal
