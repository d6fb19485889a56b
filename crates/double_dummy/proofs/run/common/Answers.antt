use Rattle.position_patterns.proofs.SetLemmas.{in_common}
use Rattle.double_dummy.proofs.run.common.Goals as goal

pub returns : goal.returns
returns c = in_common _ _ _ _ c.difference.ensures c.difference-2.ensures
