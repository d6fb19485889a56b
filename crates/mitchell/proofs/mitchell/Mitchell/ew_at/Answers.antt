use Rattle.std.proofs.Common.{arith}
use Rattle.mitchell.specs.Mitchell.{IsMitchell}
use Rattle.mitchell.proofs.PlaysLemmas.{pair_at_table, pair_of_played}
use Rattle.mitchell.proofs.RowLemmas.{same_tables}
use Rattle.mitchell.proofs.mitchell.Mitchell.ew_at.Goals as goal

pub returns-clause-row : goal.returns-clause-row
returns-clause-row c =
    let tables = same_tables c.self.view_is in
    pair_at_table c.args.self c.args.table c.args.round c.east_west_at-east_west.result c.requires.from_table
    c.requires.from_round c.requires.to_round (omega arith) (rw tables at c.east_west_at-east_west.ensures.at)

pub returns-clause-played : goal.returns-clause-played
returns-clause-played c =
    let is_section : IsMitchell c.args.self = rw c.self.view_is at c.self.invariant in
    pair_of_played c.args.self is_section c.args.table c.args.round _ (returns-clause-row c)
