use Rattle.session_state.proofs.RefusalLemmas.{refused_permission}
use Rattle.session_state.proofs.laws.permissions_guard_commands.Goals as goal

pub returns : goal.returns
returns c = refused_permission
