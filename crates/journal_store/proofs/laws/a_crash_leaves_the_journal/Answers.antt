use Rattle.std.proofs.Math.Logic.{∥∥₁_map}
use Rattle.sqlite.proofs.Theorems.{opens_again}
use Rattle.journal_store.proofs.laws.a_crash_leaves_the_journal.Goals as goal

pub returns : goal.returns
returns g c session rows clean rests left may =
    ∥∥₁_map (opens_again c.into_store.result (c.into_store.ensures.numbered clean) (c.into_store.ensures.sound clean)
    left may)
    (λ it. (it.0, it.2, rests.crash it.0 (c.into_store.ensures.quiet.outcomes it.0 it.1)))
