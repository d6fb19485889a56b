use Rattle.std.proofs.Common.{false, arith}
use Rattle.movement.specs.Kept.{kept_rows}
use Rattle.movement.specs.Mitchell.{rows_of_mitchell, mitchell_limits}
use Rattle.movement.proofs.MitchellLemmas.{mitchell_sound}
use Rattle.movement.proofs.OpenLemmas.{kept_section}
use Rattle.movement.proofs.PlaceLemmas.{in_order_of_places}
use Rattle.movement.proofs.movement.Movement.of_mitchell.Goals as goal

pub invariant_of-result : goal.invariant_of-result
invariant_of-result c =
    let section = c.args.section in
    let is_section = c.mitchell_sittings.ensures.section in (
      c.mitchell_sittings.ensures.places,
      rw (c.tables.ensures.tables, c.rounds.ensures.rounds, c.tables-2.ensures.tables, c.per_set.ensures.per_set)
          (kept_section (mitchell_limits section) section.per_set _ _ _ _ (rows_of_mitchell section)
          (kept_rows c.mitchell_sittings.result) (mitchell_sound section is_section)
          (λ row. (c.mitchell_sittings.ensures.rows row).0) (record {
            enough_tables = is_section.enough_tables;
            not_too_many_tables = is_section.not_too_many_tables;
            enough_rounds = is_section.enough_rounds;
            not_too_many_sets = omega (arith, is_section.not_too_many_tables);
            enough_boards = is_section.enough_boards;
            not_too_many_boards_in_a_set = is_section.not_too_many_boards_in_a_set;
            not_too_many_boards = is_section.not_too_many_boards;
          })),
    )

pub returns : goal.returns
returns c =
    let in_order =
    in_order_of_places (rows_of_mitchell c.args.section) c.mitchell_sittings.result c.mitchell_sittings.ensures.rows in
    λ i. record {
      tables = c.tables.ensures.tables i;
      rounds = c.rounds.ensures.rounds i;
      sets = c.tables-2.ensures.tables i;
      per_set = c.per_set.ensures.per_set i;
      absent = c.absent.ensures.absent i;
      north_south = c.pairs_of_mitchell.ensures i;
      east_west = c.pairs_of_mitchell-2.ensures i;
      is_named = false;
      rows = in_order i;
    }
