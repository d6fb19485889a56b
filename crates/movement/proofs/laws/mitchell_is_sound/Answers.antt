use Rattle.movement.proofs.MitchellLemmas.{mitchell_sound}
use Rattle.movement.proofs.laws.mitchell_is_sound.Goals as goal

pub returns : goal.returns
returns c = mitchell_sound
