use Rattle.sqlite.specs.WalFiles.{image_at}
use Rattle.kept_sessions.proofs.FaultLemmas.{cleanly, failed_not_copied, kept_not_copied, unopened_fails}
use Rattle.kept_sessions.proofs.copying.copy_journal.Goals as goal

pub returns-in-Err-open_kept_journal : goal.returns-in-Err-open_kept_journal
returns-in-Err-open_kept_journal g c =
    let refused = c.in-Err-open_kept_journal in
    record {
      why = λ clean. kept_not_copied (image_at g.S.Start) refused.left refused.fault
          (cleanly _ _ refused.left refused.ensures.refuses clean);
    }

pub returns-in-Err : goal.returns-in-Err
returns-in-Err g c = record { why = λ clean. unopened_fails c.in-Err.fault c.in-Err.ensures }

pub returns-in-Err-copy_closed : goal.returns-in-Err-copy_closed
returns-in-Err-copy_closed g c = record {
  why = λ clean. failed_not_copied _ (image_at g.S.Start) c.in-Err-copy_closed.fault c.in-Err-copy_closed.ensures;
}
