use Rattle.wire.proofs.LineLemmas.{batch_line}
use Rattle.wire.proofs.laws.batches_by_their_members.Goals as goal

pub returns : goal.returns
returns c dialect bytes d user commands message = batch_line dialect bytes d message user commands
