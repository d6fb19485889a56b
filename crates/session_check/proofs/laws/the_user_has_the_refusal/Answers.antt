use Rattle.session_check.proofs.UserLemmas.{refused_as_all}
use Rattle.session_check.proofs.laws.the_user_has_the_refusal.Goals as goal

pub returns : goal.returns
returns c = refused_as_all
