use Rattle.wire.proofs.LineLemmas.{audit_line}
use Rattle.wire.proofs.laws.audits_by_their_members.Goals as goal

pub returns : goal.returns
returns c dialect bytes d user range message = audit_line dialect bytes d message user range
