use Rattle.std.proofs.Common.{refl}
use Rattle.session_state.proofs.ToldLemmas.{same_refusal, same_after}
use Rattle.session_state.proofs.laws.names_change_nothing.Goals as goal

pub returns-clause-refusal : goal.returns-clause-refusal
returns-clause-refusal c = same_refusal

pub returns-clause-entry : goal.returns-clause-entry
returns-clause-entry c state names later notices after entry = same_after state names notices later after entry

pub returns-clause-policy : goal.returns-clause-policy
returns-clause-policy c state names notices user fact = refl
