use Rattle.pbn_records.proofs.GameBeforeLemmas.{number_at, deal_at, dealer_at, marking_at}
use Rattle.pbn_records.proofs.laws.a_board_is_read_by_the_game_before.Goals as goal

pub returns-clause-number : goal.returns-clause-number
returns-clause-number c = number_at

pub returns-clause-deal : goal.returns-clause-deal
returns-clause-deal c = deal_at

pub returns-clause-dealer : goal.returns-clause-dealer
returns-clause-dealer c = dealer_at

pub returns-clause-vulnerability : goal.returns-clause-vulnerability
returns-clause-vulnerability c = marking_at
