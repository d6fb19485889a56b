use Rattle.std.proofs.Common.{arith}
use Rattle.double_dummy.proofs.dd_table.solve_strains.Goals as goal

pub solve_strain-requires : goal.solve_strain-requires
solve_strain-requires c = c.requires

pub solve_strain-requires-2 : goal.solve_strain-requires-2
solve_strain-requires-2 c = c.requires

pub solve_strain-requires-3 : goal.solve_strain-requires-3
solve_strain-requires-3 c = c.requires

pub solve_strain-requires-4 : goal.solve_strain-requires-4
solve_strain-requires-4 c = c.requires

pub solve_strain-requires-5 : goal.solve_strain-requires-5
solve_strain-requires-5 c = c.requires

pub returns-in_default-clause-err : goal.returns-in_default-clause-err
returns-in_default-clause-err c = c.in_default.ensures.err

pub returns-in_default-clause-spent : goal.returns-in_default-clause-spent
returns-in_default-clause-spent c = omega arith

pub returns-in_default-solve_strain-clause-err : goal.returns-in_default-solve_strain-clause-err
returns-in_default-solve_strain-clause-err c = c.in_default-solve_strain.ensures.err

pub returns-in_default-solve_strain-clause-spent : goal.returns-in_default-solve_strain-clause-spent
returns-in_default-solve_strain-clause-spent c = omega arith

pub returns-in_default-solve_strain-2-clause-err : goal.returns-in_default-solve_strain-2-clause-err
returns-in_default-solve_strain-2-clause-err c = c.in_default-solve_strain-2.ensures.err

pub returns-in_default-solve_strain-2-clause-spent : goal.returns-in_default-solve_strain-2-clause-spent
returns-in_default-solve_strain-2-clause-spent c = omega arith

pub returns-in_default-solve_strain-3-clause-err : goal.returns-in_default-solve_strain-3-clause-err
returns-in_default-solve_strain-3-clause-err c = c.in_default-solve_strain-3.ensures.err

pub returns-in_default-solve_strain-3-clause-spent : goal.returns-in_default-solve_strain-3-clause-spent
returns-in_default-solve_strain-3-clause-spent c = omega arith

pub returns-in_default-solve_strain-4-clause-err : goal.returns-in_default-solve_strain-4-clause-err
returns-in_default-solve_strain-4-clause-err c = c.in_default-solve_strain-4.ensures.err

pub returns-in_default-solve_strain-4-clause-spent : goal.returns-in_default-solve_strain-4-clause-spent
returns-in_default-solve_strain-4-clause-spent c = omega arith

pub new-requires-clause-spades : goal.new-requires-clause-spades
new-requires-clause-spades c = c.in-Ok.ensures.tricks

pub new-requires-clause-hearts : goal.new-requires-clause-hearts
new-requires-clause-hearts c = c.in-Ok-solve_strain.ensures.tricks

pub new-requires-clause-diamonds : goal.new-requires-clause-diamonds
new-requires-clause-diamonds c = c.in-Ok-solve_strain-2.ensures.tricks

pub new-requires-clause-clubs : goal.new-requires-clause-clubs
new-requires-clause-clubs c = c.in-Ok-solve_strain-3.ensures.tricks

pub new-requires-clause-no_trump : goal.new-requires-clause-no_trump
new-requires-clause-no_trump c = c.in-Ok-solve_strain-4.ensures.tricks

pub returns-clause-spent : goal.returns-clause-spent
returns-clause-spent c = omega arith
