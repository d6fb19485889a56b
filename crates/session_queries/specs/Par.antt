-- A board's par, by what is marked on it and its double-dummy tricks.
use Rattle.disclosure_rules.specs.declared.marks.Marks.{Marks}
use Rattle.query_filter.specs.declared.trick_table.TrickTable.{TrickTable}
use Rattle.par.specs.Auction.{par_of}
use Rattle.par.specs.declared.par.Par.{Par}

-- the par of a board with these marks, by its twenty numbers
unfoldable pub marked_par : Marks → TrickTable → Par
marked_par marks tricks = par_of tricks marks.vulnerability marks.dealer
