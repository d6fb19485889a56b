use Rattle.session_state.proofs.EditionLemmas.{edition_kept, roles_edition_kept}
use Rattle.session_state.proofs.laws.editions_never_change.Goals as goal

pub returns-clause-public : goal.returns-clause-public
returns-clause-public c = edition_kept

pub returns-clause-roles : goal.returns-clause-roles
returns-clause-roles c = roles_edition_kept
