use Rattle.std.proofs.Common.{map, take}
use Rattle.json_fields.specs.Written.{HasItems}
use Rattle.command_writing.specs.NumberData.{written_number}
use Rattle.command_writing.proofs.found.numbers_value.Given as goal

abbrev pub invariant-loop-number : goal.invariant-loop-number
invariant-loop-number l = HasItems l.items (map written_number (take l.number-index l.numbers))
