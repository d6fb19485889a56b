use Rattle.named_movements.proofs.RefusedLemmas.{named_sound}
use Rattle.named_movements.proofs.laws.a_named_movement_is_sound.Goals as goal

pub returns : goal.returns
returns c = named_sound
