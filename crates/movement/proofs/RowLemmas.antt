-- What a row of a section can have.
use Rattle.std.proofs.Common.{Contains}
use Rattle.movement.specs.Movement.{Section, IsSection, limits_of, rows}
use Rattle.movement.specs.declared.row.Row.{Row}
use Rattle.movement.specs.Row.{IsInRange}

pub in_range : (section : Section) (row : Row) → IsSection section → Contains (rows section) row →
    IsInRange (limits_of section 0) row
in_range section row is_section among = is_section.in_range row among
