use Rattle.wire.proofs.LineLemmas.{bad_line}
use Rattle.wire.proofs.laws.bad_members_in_all_others.Goals as goal

pub returns : goal.returns
returns c dialect bytes d message = bad_line dialect bytes d message
