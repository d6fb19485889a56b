use Rattle.wire.proofs.LineLemmas.{unknown_line}
use Rattle.wire.proofs.laws.unknown_before_bad.Goals as goal

pub returns : goal.returns
returns c dialect bytes d message = unknown_line dialect bytes d message
