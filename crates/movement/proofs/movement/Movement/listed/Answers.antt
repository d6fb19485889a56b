use Rattle.mitchell.proofs.ContainsLemmas.{filter-contains}
use Rattle.movement.specs.Kept.{kept_rows}
use Rattle.movement.specs.Listed.{are_there}
use Rattle.movement.proofs.OpenLemmas.{kept_section}
use Rattle.movement.proofs.PlaceLemmas.{in_order_of_places}
use Rattle.std.specs.Prelude.{filter, true}
use Rattle.movement.proofs.movement.Movement.listed.Goals as goal

pub invariant_of-result : goal.invariant_of-result
invariant_of-result c = (
  c.sittings_of.ensures.places,
  kept_section c.args.limits c.args.per_set _ _ _ _ c.args.rows.now (kept_rows c.sittings_of.result)
      c.in_default.ensures.sound
      (λ row kept. filter-contains (are_there c.args.absent) c.args.rows.now row
      ((c.sittings_of.ensures.rows row).0 kept))
      c.in_default.ensures.within,
)

pub returns-clause-section : goal.returns-clause-section
returns-clause-section c =
    let in_order =
    in_order_of_places (filter (are_there c.args.absent) c.args.rows.now) c.sittings_of.result
    c.sittings_of.ensures.rows in
    λ i. record {
      tables = c.args.limits.tables;
      rounds = c.args.limits.rounds;
      sets = c.args.limits.sets;
      per_set = c.args.per_set;
      absent = c.args.absent;
      north_south = c.pairs_of_rows.ensures i;
      east_west = c.pairs_of_rows-2.ensures i;
      is_named = true;
      rows = in_order i;
    }

pub returns-clause-rows : goal.returns-clause-rows
returns-clause-rows c = c.sittings_of.ensures.rows
