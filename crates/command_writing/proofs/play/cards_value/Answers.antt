use Rattle.std.proofs.Common.{List, map, take, ap, sym, subst, ◌∙◌}
use Rattle.std.proofs.lemmas.Grind.{take_at_read}
use Rattle.std.proofs.lemmas.List.{map_push}
use Rattle.serde_json.specs.Data.{Data, string}
use Rattle.cards.specs.declared.card.Card.{Card}
use Rattle.cards.specs.Card.{card_text}
use Rattle.json_fields.specs.Written.{HasItems}
use Rattle.command_writing.proofs.play.cards_value.Goals as goal

pub loop-card-preserved : goal.loop-card-preserved
loop-card-preserved c =
    let written : Card → Data = λ card. string (card_text card) in
    subst (λ (items : List Data). HasItems c.item-items.result items)
    (sym (ap (map written) (take_at_read c.args.cards.now c.loop-card.card-index _ c.loop-card-test.true).1
    ∙ map_push written (take c.loop-card.card-index c.args.cards.now) _))
    (c.item-items.ensures _ _ c.loop-card.invariant (c.string_value.ensures _ c.to_string.ensures.ok))
