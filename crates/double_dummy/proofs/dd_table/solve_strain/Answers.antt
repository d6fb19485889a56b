use Rattle.std.proofs.Common.{arith}
use Rattle.double_dummy.proofs.dd_table.solve_strain.Goals as goal

pub solve_declarer-requires : goal.solve_declarer-requires
solve_declarer-requires c = c.requires

pub solve_declarer-requires-2 : goal.solve_declarer-requires-2
solve_declarer-requires-2 c = c.requires

pub solve_declarer-requires-3 : goal.solve_declarer-requires-3
solve_declarer-requires-3 c = c.requires

pub solve_declarer-requires-4 : goal.solve_declarer-requires-4
solve_declarer-requires-4 c = c.requires

pub returns-in_default-clause-err : goal.returns-in_default-clause-err
returns-in_default-clause-err c = c.in_default.ensures.err

pub returns-in_default-clause-spent : goal.returns-in_default-clause-spent
returns-in_default-clause-spent c = omega arith

pub returns-in_default-solve_declarer-clause-err : goal.returns-in_default-solve_declarer-clause-err
returns-in_default-solve_declarer-clause-err c = c.in_default-solve_declarer.ensures.err

pub returns-in_default-solve_declarer-clause-spent : goal.returns-in_default-solve_declarer-clause-spent
returns-in_default-solve_declarer-clause-spent c = omega arith

pub returns-in_default-solve_declarer-2-clause-err : goal.returns-in_default-solve_declarer-2-clause-err
returns-in_default-solve_declarer-2-clause-err c = c.in_default-solve_declarer-2.ensures.err

pub returns-in_default-solve_declarer-2-clause-spent : goal.returns-in_default-solve_declarer-2-clause-spent
returns-in_default-solve_declarer-2-clause-spent c = omega arith

pub returns-in_default-solve_declarer-3-clause-err : goal.returns-in_default-solve_declarer-3-clause-err
returns-in_default-solve_declarer-3-clause-err c = c.in_default-solve_declarer-3.ensures.err

pub returns-in_default-solve_declarer-3-clause-spent : goal.returns-in_default-solve_declarer-3-clause-spent
returns-in_default-solve_declarer-3-clause-spent c = omega arith

pub returns-clause-spent : goal.returns-clause-spent
returns-clause-spent c = omega arith
