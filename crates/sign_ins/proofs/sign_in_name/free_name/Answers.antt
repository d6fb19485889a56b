use Rattle.std.proofs.Common.{arith, rules}
use Rattle.std.proofs.lemmas.Grind.{common_steps}
use Rattle.sign_ins.proofs.sign_in_name.free_name.Goals as goal

pub returns-in-Some-name_if_free-clause-free : goal.returns-in-Some-name_if_free-clause-free
returns-in-Some-name_if_free-clause-free c = record {
  number = c.loop-number.number-counter;
  least = omega arith;
  most = omega arith;
  is = first_of (search rules, grind (arith, common_steps));
  free = first_of (search rules, grind (arith, common_steps));
  first = c.loop-number.invariant;
}
