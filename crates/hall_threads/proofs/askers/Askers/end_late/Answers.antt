use Rattle.std.proofs.Common.{refl}
use Rattle.hall_threads.proofs.AskersLemmas.{leaves_asking, len-retained}
use Rattle.hall_threads.proofs.askers.Askers.end_late.Goals as goal

pub returns : goal.returns
returns g c = leaves_asking _ _ refl refl (len-retained _ _ _ _ _ c.retain.ensures.retained)
