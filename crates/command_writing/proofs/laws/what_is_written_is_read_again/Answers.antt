use Rattle.command_writing.proofs.WrittenLemmas.{read_back}
use Rattle.command_writing.proofs.laws.what_is_written_is_read_again.Goals as goal

pub returns : goal.returns
returns c = read_back
