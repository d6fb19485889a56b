use Rattle.text_writer.proofs.text_writer.TextWriter.bytes.Goals as goal

pub returns : goal.returns
returns c = λ parts has. record { is = c.with_bytes.ensures parts has.is }
