use Rattle.position_patterns.specs.Tops.{IsTruePattern}
use Rattle.position_patterns.proofs.KeptLemmas.{all_kept}
use Rattle.position_patterns.proofs.memory.keep.Goals as goal

pub returns : goal.returns
returns c = all_kept IsTruePattern _ _ c.retain.ensures.filtered c.requires
