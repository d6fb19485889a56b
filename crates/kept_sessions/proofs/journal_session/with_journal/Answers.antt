use Rattle.std.proofs.Common.{◌≡◌, refl, subst, arith}
use Rattle.sqlite.specs.Files.{file_state}
use Rattle.sqlite.specs.FileStore.{view}
use Rattle.sqlite.specs.Held.{Held}
use Rattle.sqlite.specs.State.{HasCleanDisk}
use Rattle.sqlite.specs.View.{doubt}
use Rattle.kept_sessions.proofs.FaultLemmas.{no_doubt}
use Rattle.kept_sessions.proofs.journal_session.with_journal.Goals as goal

pub returns-in-Ok-clause-leaves : goal.returns-in-Ok-clause-leaves
returns-in-Ok-clause-leaves g c = record {
  keepable = c.in-Ok.ensures.keepable;
  left = λ clean found left.
      let same = c.in-Ok.ensures.open.1 in
      c.in-Ok.ensures.leaves (rw same at clean) found (rw same at left);
}

pub returns-in-Err-clause-unread : goal.returns-in-Err-clause-unread
returns-in-Err-clause-unread g c = (
  (c.in-Err.fault, refl, c.in-Err.ensures.fault),
  λ clean.
      let sure : doubt (view c.into_store.result).is_clean ≡ 0 = no_doubt (view c.into_store.result).is_clean clean in
      subst (λ (conn : Held _). HasCleanDisk (file_state conn)) c.in-Err.ensures.left
      (omega (arith, c.into_store.ensures.quiet.clean, sure)),
)
