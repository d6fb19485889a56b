use Rattle.program.proofs.TextLemmas.{one_text}
use Rattle.program.proofs.laws.one_text_where_memory_is_ample.Goals as goal

pub returns : goal.returns
returns c opening input received each whole = one_text opening input received each whole
