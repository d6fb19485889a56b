use Rattle.std.proofs.Common.{◌++◌, sym, ap, ◌∙◌}
use Rattle.text_writer.proofs.PartLemmas.{concat_more}
use Rattle.text_writer.proofs.text_writer.with_bytes.Goals as goal

pub returns : goal.returns
returns c = λ parts has.
    let before = rw c.in_ok-text.was at has in
    c.in_ok-extend_from_slice.ensures.items
    ∙ (ap (λ text. text ++ c.args.bytes.now) before ∙ sym (concat_more parts c.args.bytes.now))
