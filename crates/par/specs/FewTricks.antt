-- For private clauses: whether twenty numbers are numbers of tricks, as a test.
use Rattle.std.specs.Prelude.{Bool, nat_le, ◌&&◌}
use Rattle.query_filter.specs.declared.trick_table.StrainTricks.{StrainTricks}
use Rattle.query_filter.specs.declared.trick_table.TrickTable.{TrickTable}

-- four numbers are at most 13
abbrev pub are_few : StrainTricks → Bool
are_few tricks = ((nat_le tricks.north 13 && nat_le tricks.east 13) && nat_le tricks.south 13) && nat_le tricks.west 13

-- twenty numbers are at most 13
unfoldable pub all_few : TrickTable → Bool
all_few table =
    (((are_few table.spades && are_few table.hearts) && are_few table.diamonds) && are_few table.clubs)
    && are_few table.no_trump
