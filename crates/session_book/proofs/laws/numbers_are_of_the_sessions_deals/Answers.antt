use Rattle.session_book.proofs.OwnNumberLemmas.{accepted_own, deals_kept, all_kept}
use Rattle.session_book.proofs.laws.numbers_are_of_the_sessions_deals.Goals as goal

pub returns-clause-told : goal.returns-clause-told
returns-clause-told c = accepted_own

pub returns-clause-deals : goal.returns-clause-deals
returns-clause-deals c = deals_kept

pub returns-clause-kept : goal.returns-clause-kept
returns-clause-kept c = all_kept
