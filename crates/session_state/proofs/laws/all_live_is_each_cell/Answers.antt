use Rattle.session_state.proofs.CompleteLemmas.{all_live_decides}
use Rattle.session_state.proofs.laws.all_live_is_each_cell.Goals as goal

pub returns : goal.returns
returns c = all_live_decides
