use Rattle.sign_ins.proofs.TokenLemmas.{same_draw}
use Rattle.sign_ins.proofs.laws.each_draw_has_a_token_of_its_own.Goals as goal

pub returns : goal.returns
returns c = λ one other same. same_draw one other 0 same
