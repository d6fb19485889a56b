use Rattle.std.proofs.Common.{List, [], ◌∷◌, ◌++◌, ℕ, map, take, ap, sym, subst, ◌∙◌}
use Rattle.std.proofs.lemmas.Grind.{take_at_read}
use Rattle.std.proofs.lemmas.List.{map_push}
use Rattle.serde_json.specs.Data.{Data, string}
use Rattle.json_fields.specs.Written.{HasItems}
use Rattle.session_text.proofs.reasons.reasons_value.Goals as goal

pub loop-reason-preserved : goal.loop-reason-preserved
loop-reason-preserved c =
    let written : List ℕ → Data = λ bytes. string bytes in
    let before = take c.loop-reason.reason-index c.args.reasons.now in
    subst (λ (items : List Data). HasItems c.item-items.result items)
    (sym (ap (map written) (take_at_read c.args.reasons.now c.loop-reason.reason-index c.reason-item.result c.loop-reason-test.true).1
    ∙ map_push written before _
    ∙ ap (λ (bytes : List ℕ). map written before ++ written bytes ∷ []) (sym c.reason-item.is)))
    (c.item-items.ensures _ _ c.loop-reason.invariant c.notice_value.ensures)
