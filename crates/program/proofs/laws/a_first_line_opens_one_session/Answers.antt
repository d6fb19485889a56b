use Rattle.std.specs.Prelude.{None}
use Rattle.opened_session.proofs.OpeningLemmas.{one_opening}
use Rattle.program.proofs.laws.a_first_line_opens_one_session.Goals as goal

pub returns : goal.returns
returns c line one other first second = one_opening None line one other first second
