use Rattle.std.proofs.Common.{List, map, take, ap, sym, subst, ◌∙◌}
use Rattle.std.proofs.lemmas.Grind.{take_at_read}
use Rattle.std.proofs.lemmas.List.{map_push}
use Rattle.serde_json.specs.Data.{Data}
use Rattle.json_fields.specs.Written.{HasItems}
use Rattle.command_writing.specs.NumberData.{written_number}
use Rattle.command_writing.proofs.found.numbers_value.Goals as goal

pub loop-number-preserved : goal.loop-number-preserved
loop-number-preserved c =
    subst (λ (items : List Data). HasItems c.item-items.result items)
    (sym (ap (map written_number) (take_at_read c.args.numbers.now c.loop-number.number-index _ c.loop-number-test.true).1
    ∙ map_push written_number (take c.loop-number.number-index c.args.numbers.now) _))
    (c.item-items.ensures _ _ c.loop-number.invariant c.from.ensures)
