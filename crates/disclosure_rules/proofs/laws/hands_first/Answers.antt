use Rattle.disclosure_rules.proofs.FirstLemmas.{hands_allowed}
use Rattle.disclosure_rules.proofs.laws.hands_first.Goals as goal

pub returns : goal.returns
returns c = hands_allowed
