use Rattle.std.proofs.Common.{◌++◌, sym, ap, ◌∙◌}
use Rattle.text_writer.proofs.PartLemmas.{concat_map_more}
use Rattle.text_writer.proofs.listing.written_list.Goals as goal

pub loop-item-preserved : goal.loop-item-preserved
loop-item-preserved g c =
    let text = g.W.Written.text c.args.known.now in
    let items = c.args.items.now in
    let k = c.loop-item.item-index in
    let written = c.deref.ensures.value ∙ (c.in_ok-bytes.ensures ∙ ap text c.item-item.is) in
    c.in_ok-extend_from_slice.ensures.items
    ∙ ((λ i. c.loop-item.invariant i ++ written i)
    ∙ sym (concat_map_more text items k c.item-item.result c.loop-item-test.true))
