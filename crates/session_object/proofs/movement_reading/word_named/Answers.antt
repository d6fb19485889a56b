use Rattle.session_object.proofs.AskedLemmas.{word_found, no_word_found}
use Rattle.session_object.proofs.movement_reading.word_named.Goals as goal

pub returns-in-Some : goal.returns-in-Some
returns-in-Some c = word_found c.args.text.now c.in-Some.word c.in-Some.ensures.found

pub returns-in-None : goal.returns-in-None
returns-in-None c = no_word_found c.args.text.now c.in-None.ensures.none
