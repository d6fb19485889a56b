use Rattle.std.proofs.Common.{refl}
use Rattle.std.specs.Fmt.{digits}
use Rattle.page_answers.proofs.fixed_answers.say_not_found.Goals as goal

pub put_body-requires-clause-sized : goal.put_body-requires-clause-sized
unfolding digits
put_body-requires-clause-sized c = rw (c.from_static-2.ensures, c.from_static-3.ensures) refl
