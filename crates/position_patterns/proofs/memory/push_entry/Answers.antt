use Rattle.position_patterns.specs.Tops.{IsTruePattern}
use Rattle.position_patterns.proofs.KeptLemmas.{all_added}
use Rattle.position_patterns.proofs.memory.push_entry.Goals as goal

pub returns-in-Ok : goal.returns-in-Ok
returns-in-Ok c = all_added IsTruePattern _ _ c.args.entry c.in-Ok.ensures.items c.requires.all c.requires.entry
