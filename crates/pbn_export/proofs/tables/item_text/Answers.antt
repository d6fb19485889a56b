use Rattle.std.proofs.Common.{◌≡◌, Bool, false, [], ◌∷◌, sym, subst}
use Rattle.std.specs.Prelude.{if◌then◌else◌, IfOk}
use Rattle.std.specs.List.{concat}
use Rattle.pbn_export.specs.Tables.{is_word, value_text}
use Rattle.pbn_export.proofs.tables.item_text.Goals as goal

pub returns : goal.returns
returns c =
    let item = c.args.item.now in
    let plain : is_word item ≡ false = cc in
    subst (λ (b : Bool). IfOk c.finish.result (λ written. written.items
    ≡ (if b then item else concat ((34 ∷ []) ∷ value_text item ∷ (34 ∷ []) ∷ [])))) (sym plain)
    (c.finish.ensures _ (c.text-2.ensures _ (c.part.ensures _ _ (c.text.ensures _ c.new.ensures) c.value_text.ensures)))
