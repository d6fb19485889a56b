-- What a writer of an object or an array has so far, where no memory was refused.
use Rattle.std.specs.Prelude.{◌≡◌, List, map, IfOk}
use Rattle.serde_json.specs.Data.{Data, Members}
use Rattle.serde_json.specs.View.{view, members_view}
use Rattle.json_fields.specs.declared.array_writer.ArrayWriter.{ArrayWriter}
use Rattle.json_fields.specs.declared.object_writer.ObjectWriter.{ObjectWriter}

-- the members so far, in the order of their names
abbrev pub HasMembers : ObjectWriter → Members → Type 0
HasMembers writer members = IfOk writer.written (λ written. members_view written.entries ≡ members)

-- the items so far, in the order in which they were added
abbrev pub HasItems : ArrayWriter → List Data → Type 0
HasItems writer items = IfOk writer.written (λ written. map view written.items ≡ items)
