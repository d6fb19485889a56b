use Rattle.request_answers.proofs.ToldLemmas.{passed, taken_in_or_passed}
use Rattle.request_answers.proofs.laws.every_outcome_is_a_turn.Goals as goal

pub returns-clause-unanswered : goal.returns-clause-unanswered
returns-clause-unanswered g c opening before after user request fault =
    taken_in_or_passed g.K.Keeper.others g.K.Keeper.no_entry g.K.Keeper.not_kept opening before user request after fault

pub returns-clause-passed : goal.returns-clause-passed
returns-clause-passed g c opening before after user request fault =
    passed g.K.Keeper.others g.K.Keeper.no_entry g.K.Keeper.not_kept opening before user request after fault
