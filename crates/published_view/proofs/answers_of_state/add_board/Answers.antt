use Rattle.std.proofs.Common.{
  rules,
  ◌≡◌,
  ◌-◌,
  ◌≤◌,
  ◌++◌,
  true,
  false,
  Some,
  All,
  length,
  slice_get,
  subst,
  sym,
  ap,
  ◌∙◌,
}
use Rattle.std.specs.Prelude.{is_some}
use Rattle.std.proofs.lemmas.List.{append-nil}
use Rattle.movement.specs.Movement.{IsCell, boards_of}
use Rattle.disclosure_rules.specs.declared.fact.Fact.TheVariants as fact
use Rattle.disclosure_rules.specs.declared.public.Public.{Public}
use Rattle.disclosure_rules.specs.Policy.{first_rule}
use Rattle.standings.specs.declared.table_result.TableResult.{TableResult}
use Rattle.standings.specs.Ranking.{earnings_of}
use Rattle.published_view.proofs.AnswerLemmas.{nothing_earned, board_earned}
use Rattle.published_view.proofs.answers_of_state.add_board.Goals as goal

pub returns-then-is_some-clause-earnings : goal.returns-then-is_some-clause-earnings
returns-then-is_some-clause-earnings c =
    let forbids : is_some (first_rule c.args.state.now.public c.args.viewer.now (fact.Hands c.args.number)) ≡ true =
    search rules in
    sym (ap (λ earned. c.args.earnings.now.items ++ earned) (nothing_earned c.args.state.now c.args.viewer.now
    c.args.number forbids) ∙ append-nil _)

pub add_earnings-requires-clause-cells : goal.add_earnings-requires-clause-cells
add_earnings-requires-clause-cells c =
    subst (λ (p : Public). All (λ (found : TableResult). IsCell p.movement found.cell) c.deref.result.now)
    (sym c.public-public.ensures.public)
    (subst (All (λ (found : TableResult). IsCell c.args.state.now.public.movement found.cell))
    (sym c.deref.ensures.value)
    c.in_ok-results.ensures.cells)

pub returns-clause-earnings : goal.returns-clause-earnings
returns-clause-earnings c =
    let state = c.args.state.now in
    let marks = c.marks-vulnerability.result in
    let free : is_some (first_rule state.public c.args.viewer.now (fact.Hands c.args.number)) ≡ false = search rules in
    let dealt : boards_of state.public.movement ≤ length state.deals = search rules in
    let marked : slice_get state.public.marks (c.args.number - 1) ≡ Some marks = search rules in
    c.in_ok-add_earnings.ensures.earnings
    ∙ ap (λ earned. c.args.earnings.now.items ++ earned)
    ((λ i. earnings_of (c.public-public.ensures.public i).movement marks.vulnerability
    ((c.deref.ensures.value ∙ c.in_ok-results.ensures.results) i))
    ∙ sym (board_earned state c.args.viewer.now c.args.number c.requires.there dealt free marks marked))
