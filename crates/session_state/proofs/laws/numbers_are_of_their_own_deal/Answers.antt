use Rattle.session_state.proofs.OwnNumberLemmas.{told_own, entry_keeps}
use Rattle.session_state.proofs.laws.numbers_are_of_their_own_deal.Goals as goal

pub returns-clause-told : goal.returns-clause-told
returns-clause-told c = told_own

pub returns-clause-kept : goal.returns-clause-kept
returns-clause-kept c = entry_keeps
