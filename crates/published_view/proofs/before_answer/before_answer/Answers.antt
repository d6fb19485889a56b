use Rattle.std.proofs.Common.{sym}
use Rattle.denials.specs.Evidence.{denial_of}
use Rattle.published_view.proofs.AnswerLemmas.{none_of_none}
use Rattle.published_view.proofs.before_answer.before_answer.Goals as goal

pub returns-in-None-clause-allowed : goal.returns-in-None-clause-allowed
unfolding denial_of
returns-in-None-clause-allowed c = none_of_none _ _ (sym c.in-None.ensures)
