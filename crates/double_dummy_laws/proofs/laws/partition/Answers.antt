use Rattle.double_dummy_laws.proofs.PatternLemmas.{partition}
use Rattle.double_dummy_laws.proofs.laws.partition.Goals as goal

pub returns : goal.returns
returns c = partition
