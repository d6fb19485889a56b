-- Of a list that can be played, what is kept keeps to it in whatever order its rows stand.
use Rattle.std.proofs.Common.{ℕ, Bool, List, Contains}
use Rattle.std.specs.Prelude.{Option}
use Rattle.table_terms.specs.declared.pair.Pair.{Pair}
use Rattle.std.proofs.lemmas.List.Elements.{All-contains}
use Rattle.movement.specs.declared.limits.Limits.{Limits}
use Rattle.movement.specs.declared.row.Row.{Row}
use Rattle.movement.specs.Movement.{IsSection}
use Rattle.movement.specs.Listed.{AreWithin}
use Rattle.movement.specs.Sound.{IsInRange, IsSound}
use Rattle.movement.proofs.ApartLemmas.{same_at_table, same_cell, same_in_round, same_at_set, same_opponents}

module _ (limits : Limits) (per_set : ℕ) (absent : Option Pair) (north_south east_west : List ℕ) (is_named : Bool)
    (rows kept : List Row) (sound : IsSound limits rows)
    (among : (row : Row) → Contains kept row → Contains rows row) (within : AreWithin limits per_set) where
  pub kept_section : IsSection (record {
    tables = limits.tables;
    rounds = limits.rounds;
    sets = limits.sets;
    per_set = per_set;
    absent = absent;
    north_south = north_south;
    east_west = east_west;
    is_named = is_named;
    rows = kept;
  })
  kept_section = record {
    enough_tables = within.enough_tables;
    not_too_many_tables = within.not_too_many_tables;
    enough_rounds = within.enough_rounds;
    not_too_many_sets = within.not_too_many_sets;
    enough_boards = within.enough_boards;
    not_too_many_boards_in_a_set = within.not_too_many_boards_in_a_set;
    not_too_many_boards = within.not_too_many_boards;
    in_range = λ row kept_there.
        let range = All-contains (IsInRange limits) rows row sound.in_range (among row kept_there) in
        record {
          from_round = range.from_round;
          to_round = range.to_round;
          from_table = range.from_table;
          to_table = range.to_table;
          from_set = range.from_set;
          to_set = range.to_set;
          from_north_south = range.from_north_south;
          to_north_south = range.to_north_south;
          from_east_west = range.from_east_west;
          to_east_west = range.to_east_west;
          two_pairs = range.two_pairs;
        };
    at_table = λ first second in_first in_second table round.
        same_at_table limits rows first second sound (among first in_first) (among second in_second) table round;
    at_cell = λ first second in_first in_second table set.
        same_cell limits rows first second sound (among first in_first) (among second in_second) table set;
    in_round = λ first second pair in_first in_second one other round.
        same_in_round limits rows first second sound (among first in_first) (among second in_second) pair one
        other round;
    at_set = λ first second pair in_first in_second one other set.
        same_at_set limits rows first second sound (among first in_first) (among second in_second) pair one
        other set;
    opponents = λ first second pair other in_first in_second two one one' other_one other_one'.
        same_opponents limits rows first second sound (among first in_first) (among second in_second) pair other
        two one one' other_one other_one';
  }
