use Rattle.std.proofs.Common.{◌≡◌, subst, arith}
use Rattle.std.proofs.Math.Logic.{∥∥₁_map}
use Rattle.sqlite.specs.Held.{Held}
use Rattle.sqlite.specs.View.{doubt}
use Rattle.sqlite.specs.FileStore.{view, recovers}
use Rattle.sqlite.proofs.Theorems.{opens_again}
use Rattle.row_journal.proofs.laws.a_crash_leaves_publications.Goals as goal

pub returns : goal.returns
returns g c clean left may =
    let same = c.into_connection.ensures.conn in
    ∥∥₁_map (opens_again c.into_store.result (c.into_store.ensures.numbered clean)
    (c.into_store.ensures.sound clean) left may) (λ it.
    let was = subst (λ (h : Held _). recovers h.store it.0) same (c.into_store.ensures.quiet.outcomes it.0 it.1) in
    let early = subst (λ (h : Held _). doubt (view h.store).is_clean ≡ 0) same (omega
    (arith, c.into_store.ensures.quiet.clean, clean)) in
    let found = c.into_connection.ensures.outcomes early it.0 was in
    (it.0, found.0, found.1, it.2, found.2, (found.0, it.0, was, found.2)))
