use Rattle.published_view.proofs.EveryRunLemmas.{
  is_written,
  denial_names_first,
  same_answers,
  are_exhaustive,
  none_foreknown,
}
use Rattle.published_view.proofs.HistoryLemmas.{may_go_on, names_published}
use Rattle.published_view.proofs.laws.every_run.Goals as goal

pub returns-clause-interleaving : goal.returns-clause-interleaving
returns-clause-interleaving c = may_go_on

pub returns-clause-version : goal.returns-clause-version
returns-clause-version c = names_published

pub returns-clause-written : goal.returns-clause-written
returns-clause-written c = is_written

pub returns-clause-denials : goal.returns-clause-denials
returns-clause-denials c opening history reading reply denial is told = denial_names_first opening history reading reply
    is told denial

pub returns-clause-worlds : goal.returns-clause-worlds
returns-clause-worlds c = same_answers

pub returns-clause-exhaustive : goal.returns-clause-exhaustive
returns-clause-exhaustive c = are_exhaustive

pub returns-clause-no_foreknowledge : goal.returns-clause-no_foreknowledge
returns-clause-no_foreknowledge c opening history reading reply board before cell is told =
    none_foreknown opening history reading reply is told board before cell
