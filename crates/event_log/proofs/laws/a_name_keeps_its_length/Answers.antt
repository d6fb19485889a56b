use Rattle.std.proofs.lemmas.List.{length-map}
use Rattle.event_log.specs.Plain.{plain_byte, plain}
use Rattle.event_log.proofs.laws.a_name_keeps_its_length.Goals as goal

pub returns : goal.returns
unfolding plain
returns c = λ name. length-map name plain_byte
