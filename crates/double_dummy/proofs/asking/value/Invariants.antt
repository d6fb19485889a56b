use Rattle.std.proofs.Common.{◌≤◌, ◌-◌, ◌<◌}
use Rattle.double_dummy.proofs.asking.value.Given as goal
use Rattle.cards.specs.DoubleDummy.{double_dummy}

abbrev pub invariant-loop-low : goal.invariant-loop-low
invariant-loop-low l = record {
  taken : l.low ≤ double_dummy l.position;
  bound : double_dummy l.position ≤ l.high;
  fits : l.high < 256;
  spent : l.budget ≤ l.initial.budget;
}

abbrev pub decreases-loop-low : goal.decreases-loop-low
decreases-loop-low l = l.high - l.low
