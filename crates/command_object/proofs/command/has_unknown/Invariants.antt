use Rattle.std.proofs.Common.{◌≡◌, drop}
use Rattle.serde_json.specs.View.{items_view}
use Rattle.command_object.specs.Command.{has_unknown}
use Rattle.command_object.proofs.command.has_unknown.Given as goal

-- all have an unknown word exactly if those that are left have
abbrev pub invariant-loop-value : goal.invariant-loop-value
invariant-loop-value l = has_unknown l.edition (items_view (drop l.value-index l.list)) ≡ has_unknown l.edition
    (items_view l.list)
