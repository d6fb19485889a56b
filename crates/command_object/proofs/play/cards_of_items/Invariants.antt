use Rattle.std.proofs.Common.{◌≡◌, drop}
use Rattle.serde_json.specs.View.{items_view}
use Rattle.command_object.specs.Play.{cards_of_items}
use Rattle.json_fields.proofs.ListLemmas.{with_front}
use Rattle.command_object.proofs.play.cards_of_items.Given as goal

-- the cards so far, and those of what is left
abbrev pub invariant-loop-value : goal.invariant-loop-value
invariant-loop-value l = with_front l.cards.items (cards_of_items (items_view (drop l.value-index l.list))) ≡
    cards_of_items (items_view l.list)
