use Rattle.wire.proofs.LineLemmas.{query_line}
use Rattle.wire.proofs.laws.queries_by_their_members.Goals as goal

pub returns : goal.returns
returns c dialect bytes d user query since message = query_line dialect bytes d message user query since
