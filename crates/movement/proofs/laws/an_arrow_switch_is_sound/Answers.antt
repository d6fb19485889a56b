use Rattle.movement.proofs.SwitchedLemmas.{switched_sound}
use Rattle.movement.proofs.laws.an_arrow_switch_is_sound.Goals as goal

pub returns : goal.returns
returns c = switched_sound
