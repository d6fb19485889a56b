use Rattle.command_object.proofs.LetterLemmas.{no_card_named}
use Rattle.command_object.proofs.play.card_named.Goals as goal

pub returns-in-Err : goal.returns-in-Err
returns-in-Err c = no_card_named c.args.text.now c.in-Err.ensures.value.1
