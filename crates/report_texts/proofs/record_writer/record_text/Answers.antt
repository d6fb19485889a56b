use Rattle.std.proofs.Common.{◌≢◌, ◌∙◌}
use Rattle.csv.specs.declared.writer.QuoteStyle.TheVariants as style
use Rattle.report_texts.proofs.record_writer.record_text.Goals as goal

pub returns-in-Ok-into_inner : goal.returns-in-Ok-into_inner
returns-in-Ok-into_inner c =
    let from = c.from_writer-writer.ensures in
    let plain : c.from_writer-writer.result.cfg.style ≢ style.NonNumeric = rw from.cfg (λ e. cc e) in
    let h = c.in-Ok.ensures.bytes from.fields from.wrote plain in
    let text = rw (from.cfg, from.wtr, c.new-written.ensures.items, from.empty) at h in
    c.in-Ok-into_inner.ensures.ok ∙ text
