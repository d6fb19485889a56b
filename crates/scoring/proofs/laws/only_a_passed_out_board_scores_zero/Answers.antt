use Rattle.scoring.proofs.ScoreLemmas.{zero_when_passed_out}
use Rattle.scoring.proofs.laws.only_a_passed_out_board_scores_zero.Goals as goal

pub returns : goal.returns
returns c = zero_when_passed_out
