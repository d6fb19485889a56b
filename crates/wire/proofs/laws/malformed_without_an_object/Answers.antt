use Rattle.wire.proofs.LineLemmas.{malformed_line}
use Rattle.wire.proofs.laws.malformed_without_an_object.Goals as goal

pub returns : goal.returns
returns c dialect bytes = malformed_line dialect bytes
