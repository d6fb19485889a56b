use Rattle.std.proofs.Common.{map, ◌∷◌, [], ◌++◌, ap, sym, ◌∙◌}
use Rattle.std.proofs.lemmas.List.{map-append}
use Rattle.serde_json.specs.View.{view}
use Rattle.reply_texts.specs.StatusText.{tables_data}
use Rattle.reply_texts.proofs.RangeLemmas.{map_with_next}
use Rattle.reply_texts.proofs.status_writing.live_value.Goals as goal

pub loop-before-preserved : goal.loop-before-preserved
loop-before-preserved c =
    ap (map view) c.in_ok-push.ensures.ok
    ∙ map-append view c.loop-before.values.items (c.in_ok-value.value ∷ [])
    ∙ (λ i. c.loop-before.invariant i ++ c.in_ok-value.ensures i ∷ [])
    ∙ sym (map_with_next (tables_data c.args.public.now) c.loop-before.before)
