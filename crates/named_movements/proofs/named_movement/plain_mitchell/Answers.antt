use Rattle.named_movements.proofs.RefusedLemmas.{allowed_mitchell, first_is_pair}
use Rattle.named_movements.proofs.named_movement.plain_mitchell.Goals as goal

pub returns-in-Ok-clause-allowed : goal.returns-in-Ok-clause-allowed
returns-in-Ok-clause-allowed c =
    allowed_mitchell c.args.named c.requires.plain c.requires.tables c.requires.rounds c.in-Ok.ensures.allowed

pub returns-in-Err-BadPair-clause-refused : goal.returns-in-Err-BadPair-clause-refused
returns-in-Err-BadPair-clause-refused c =
    first_is_pair c.args.named c.requires.plain c.requires.tables c.requires.rounds
    (rw c.in-Err-BadPair.field-0-is at c.in-Err-BadPair.ensures.refused)
