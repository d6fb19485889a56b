use Rattle.text_writer.proofs.text_writer.TextWriter.finish.Goals as goal

pub returns : goal.returns
returns c = λ parts has. has.is
