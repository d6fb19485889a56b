use Rattle.session_state.proofs.NameLemmas.{renamed_own, renamed_others}
use Rattle.session_state.proofs.laws.a_rename_is_of_its_own_user.Goals as goal

pub returns-clause-own : goal.returns-clause-own
returns-clause-own c = renamed_own

pub returns-clause-others : goal.returns-clause-others
returns-clause-others c = renamed_others
