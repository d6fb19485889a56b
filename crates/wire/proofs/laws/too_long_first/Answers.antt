use Rattle.wire.proofs.LineLemmas.{too_long_line}
use Rattle.wire.proofs.laws.too_long_first.Goals as goal

pub returns : goal.returns
returns c dialect bytes = too_long_line dialect bytes
