use Rattle.std.specs.Prelude.{◌++◌}
use Rattle.published_view.proofs.HistoryLemmas.{may_go_on}
use Rattle.continued_history.proofs.ReplyLemmas.{
  journal_kept,
  published_kept,
  shown_kept,
  exposed_kept,
  same_reply,
  of_version,
  written,
  denied,
  same_in_worlds,
  exhaustive,
  foreknown_by_none,
}
use Rattle.continued_history.proofs.laws.every_run_over_a_restart.Goals as goal

pub returns-clause-interleaving : goal.returns-clause-interleaving
returns-clause-interleaving c opening run later restart =
    may_go_on opening (later ++ restart.again) restart.goes_on

pub returns-clause-kept : goal.returns-clause-kept
returns-clause-kept c = journal_kept

pub returns-clause-published : goal.returns-clause-published
returns-clause-published c = published_kept

pub returns-clause-shown : goal.returns-clause-shown
returns-clause-shown c = shown_kept

pub returns-clause-exposed : goal.returns-clause-exposed
returns-clause-exposed c = exposed_kept

pub returns-clause-same : goal.returns-clause-same
returns-clause-same c = same_reply

pub returns-clause-version : goal.returns-clause-version
returns-clause-version c = of_version

pub returns-clause-written : goal.returns-clause-written
returns-clause-written c = written

pub returns-clause-denials : goal.returns-clause-denials
returns-clause-denials c opening run later restart reading reply denial either =
    denied opening run later restart reading reply either denial

pub returns-clause-worlds : goal.returns-clause-worlds
returns-clause-worlds c = same_in_worlds

pub returns-clause-exhaustive : goal.returns-clause-exhaustive
returns-clause-exhaustive c = exhaustive

pub returns-clause-no_foreknowledge : goal.returns-clause-no_foreknowledge
returns-clause-no_foreknowledge c opening run later restart reading reply board before cell either =
    foreknown_by_none opening run later restart reading reply either board before cell
