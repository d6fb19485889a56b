use Rattle.std.proofs.Math.Logic.{∥∥₁_map}
use Rattle.sqlite.specs.Files.{file_state}
use Rattle.journal_store.proofs.closing.close_journal.Goals as goal

pub returns-in-Ok-clause-alone : goal.returns-in-Ok-clause-alone
returns-in-Ok-clause-alone g c honest session rows rests image may =
    ∥∥₁_map ((c.in-Ok.ensures.copied honest).left image may).alone
    (λ holds. ((file_state c.args.conn).committed.trees, holds, rests.committed.kept))
