use Rattle.report_texts.proofs.record_writer.RecordWriter.bytes.Goals as goal

pub returns : goal.returns
returns c = λ fields has. record { is = c.with_field.ensures fields has.is }
