-- What is stored of a double-dummy table: the deal and its twenty numbers.
use Rattle.std.specs.Prelude.{◌≡◌}
use Rattle.std.proofs.Common.{sym}
use Rattle.table_terms.specs.declared.strain.Strain.TheVariants.{Spades, Hearts, Diamonds, Clubs, NoTrump}
use Rattle.cards.specs.Hands.{Hands}
use Rattle.solver_results.specs.DdTable.{tricks_in}
use Rattle.solver_results.specs.declared.dd_table.DdTable.TheInside.{Inside}

-- the numbers are the deal's
pub record IsTable (table : Inside) : Type 0 where
  pub spades : table.spades ≡ tricks_in table.deal Spades
  pub hearts : table.hearts ≡ tricks_in table.deal Hearts
  pub diamonds : table.diamonds ≡ tricks_in table.deal Diamonds
  pub clubs : table.clubs ≡ tricks_in table.deal Clubs
  pub no_trump : table.no_trump ≡ tricks_in table.deal NoTrump

-- the table of a deal
abbrev pub dd_table_of : Hands → Inside
dd_table_of deal = record {
  deal = deal;
  spades = tricks_in deal Spades;
  hearts = tricks_in deal Hearts;
  diamonds = tricks_in deal Diamonds;
  clubs = tricks_in deal Clubs;
  no_trump = tricks_in deal NoTrump;
}

-- the deal gives the numbers back
pub dd_table_of-deal : (table : Inside) → IsTable table → dd_table_of table.deal ≡ table
dd_table_of-deal table is i = record {
  deal = table.deal;
  spades = sym is.spades i;
  hearts = sym is.hearts i;
  diamonds = sym is.diamonds i;
  clubs = sym is.clubs i;
  no_trump = sym is.no_trump i;
}
