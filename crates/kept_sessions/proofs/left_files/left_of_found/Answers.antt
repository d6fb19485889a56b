use Rattle.std.proofs.Common.{◌≡◌, subst, arith}
use Rattle.sqlite.specs.Files.{file_state}
use Rattle.sqlite.specs.FileStore.{view}
use Rattle.sqlite.specs.Held.{Held}
use Rattle.sqlite.specs.State.{HasCleanDisk}
use Rattle.sqlite.specs.View.{doubt}
use Rattle.kept_sessions.proofs.FaultLemmas.{no_doubt}
use Rattle.kept_sessions.proofs.left_files.left_of_found.Goals as goal

pub returns : goal.returns
returns g c clean =
    let sure : doubt (view c.into_store.result).is_clean ≡ 0 = no_doubt (view c.into_store.result).is_clean clean in
    subst (λ (conn : Held _). HasCleanDisk (file_state conn)) c.into_connection.ensures
    (omega (arith, c.into_store.ensures.quiet.clean, sure))
