use Rattle.std.proofs.Common.{◌≡◌, drop}
use Rattle.serde_json.specs.View.{items_view}
use Rattle.command_object.specs.Command.{commands_in}
use Rattle.json_fields.proofs.ListLemmas.{with_front}
use Rattle.command_object.proofs.command.commands_in.Given as goal

-- the commands so far, and those of what is left
abbrev pub invariant-loop-value : goal.invariant-loop-value
invariant-loop-value l = with_front l.commands.items (commands_in l.edition (items_view (drop l.value-index l.list))) ≡
    commands_in l.edition (items_view l.list)
