use Rattle.std.proofs.Common.{arith}
use Rattle.session_object.proofs.AskedLemmas.{no_row}
use Rattle.session_object.proofs.movement_reading.row_in.Goals as goal

pub returns-in_default : goal.returns-in_default
returns-in_default c = no_row c.args.list.now (λ same. omega (arith, same, c.in_default.len_below))

pub returns-in_default-2 : goal.returns-in_default-2
returns-in_default-2 c = no_row c.args.list.now (λ same. omega (arith, same, c.in_default.len_at_least))
