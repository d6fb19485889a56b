use Rattle.std.proofs.Common.{[], ◌∷◌, ◌++◌, ◌∙◌}
use Rattle.report_texts.proofs.record_writer.with_field.Goals as goal

pub returns : goal.returns
returns c = λ fields has.
    let before = rw c.in_ok-record.was at has in (
      c.in_ok-push_field.ensures.fields ∙ (λ i. before.0 i ++ (before.1 i ++ c.args.field.now) ∷ []),
      c.in_ok-push_field.ensures.partial,
    )
