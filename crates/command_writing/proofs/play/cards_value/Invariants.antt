use Rattle.std.proofs.Common.{map, take}
use Rattle.serde_json.specs.Data.{string}
use Rattle.cards.specs.Card.{card_text}
use Rattle.json_fields.specs.Written.{HasItems}
use Rattle.command_writing.proofs.play.cards_value.Given as goal

abbrev pub invariant-loop-card : goal.invariant-loop-card
invariant-loop-card l = HasItems l.items (map (λ card. string (card_text card)) (take l.card-index l.cards))
