use Rattle.wire.proofs.LineLemmas.{first_bytes_tell}
use Rattle.wire.proofs.laws.no_more_bytes_matter.Goals as goal

pub returns : goal.returns
returns c dialect bytes = first_bytes_tell dialect bytes
