use Rattle.standings.proofs.OrderLemmas.{ranks_decides}
use Rattle.standings.proofs.laws.order_is_decided.Goals as goal

pub returns : goal.returns
returns c = ranks_decides
