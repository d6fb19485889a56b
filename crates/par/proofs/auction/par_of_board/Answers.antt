use Rattle.std.proofs.Common.{sym, ◌∙◌}
use Rattle.par.proofs.TrickLemmas.{few_are_tricks, tricks_are_few}
use Rattle.par.proofs.auction.par_of_board.Goals as goal

pub auction-requires : goal.auction-requires
auction-requires c = few_are_tricks c.args.table.now (sym c.all_few.ensures ∙ c.if-all_few.true)

pub returns-then-all_few : goal.returns-then-all_few
returns-then-all_few c =
    (few_are_tricks c.args.table.now (sym c.all_few.ensures ∙ c.if-all_few.true), c.auction.ensures)

pub returns-else-all_few : goal.returns-else-all_few
returns-else-all_few c =
    λ has. let few = tricks_are_few c.args.table.now has in let e = c.all_few.ensures in let f = c.if-all_few.false in cc
