use Rattle.std.proofs.Common.{◌≡◌, ◌+◌, ◌≤◌, suc, drop, length, ◌++◌, None, vec_len, vec_capacity}
use Rattle.cards.specs.Play.{IsPosition, cards_left}
use Rattle.position_patterns.specs.Remainder.{IsLeftOf}
use Rattle.double_dummy.proofs.card_costs.cost_each.Given as goal
use Rattle.cards.specs.DoubleDummy.{double_dummy, cost_list, first_illegal}

abbrev pub invariant-loop-card : goal.invariant-loop-card
invariant-loop-card l = record {
  legal : first_illegal (suc l.card-index) l.position (drop l.card-index l.play) ≡ None;
  costs : l.numbers.items ++ cost_list l.position (drop l.card-index l.play) ≡ cost_list l.start l.play;
  before : l.before ≡ double_dummy l.position;
  valid : IsPosition l.position;
  dealt : IsLeftOf l.patterns.whole l.position.hands;
  few : cards_left l.position + length l.position.table ≤ 52;
  number : l.card-index + cards_left l.position ≡ 52;
  numbers : length l.numbers.items ≡ l.card-index;
  counted : vec_len l.numbers ≡ l.card-index;
  room : length l.play ≤ vec_capacity l.numbers;
  spent : l.budget ≤ l.initial.budget;
  spent_before : l.initial.budget ≤ l.fn.budget;
}
