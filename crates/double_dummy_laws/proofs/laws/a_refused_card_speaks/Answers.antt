use Rattle.double_dummy_laws.proofs.RefusedLemmas.{card_found_worth, speaks}
use Rattle.double_dummy_laws.proofs.laws.a_refused_card_speaks.Goals as goal

pub returns-clause-speaks : goal.returns-clause-speaks
returns-clause-speaks c = speaks

pub returns-clause-worth : goal.returns-clause-worth
returns-clause-worth c = card_found_worth
