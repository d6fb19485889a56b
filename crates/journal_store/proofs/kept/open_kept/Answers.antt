use Rattle.std.proofs.Common.{◌≡◌, ℕ, Bool, cond, inr, List, ap₂, arith}
use Rattle.sqlite_disk.specs.Events.{Event, replay}
use Rattle.sqlite.specs.Recovery.{Image}
use Rattle.sqlite.specs.declared.file.Leftover.TheVariants.{Store}
use Rattle.sqlite_trees.specs.View.{doubt}
use Rattle.sqlite_trees.proofs.Doubt.{no_doubt}
use Rattle.sqlite_store.specs.FileStore.{view}
use Rattle.sqlite.specs.State.{HasCleanDisk}
use Rattle.sqlite.specs.Files.{file_state}
use Rattle.journal_store.proofs.FailLemmas.{either_left, left_of_open, left_of_state, named_unopened}
use Rattle.journal_store.proofs.RestartLemmas.{idle_if_opened, kept_at, refused_at}
use Rattle.journal_store.proofs.kept.open_kept.Goals as goal

abbrev image : List ℕ → List ℕ → Image
image log db = record { log = log; db = db }

abbrev seen : List ℕ → List ℕ → Bool → List Event → List ℕ
seen log db is_log history = (replay (cond is_log log db) history).seen

pub returns-in-Ok-read_kept-clause-opens : goal.returns-in-Ok-read_kept-clause-opens
returns-in-Ok-read_kept-clause-opens g c clean =
    let late : HasCleanDisk (file_state c.read_kept.new.conn) = clean in
    let early : HasCleanDisk (file_state c.in-Ok.conn) = omega (arith, c.read_kept.ensures.survives.clean, late) in
    let idle = idle_if_opened (file_state c.in-Ok.conn) (c.in-Ok.ensures.opened early) in
    kept_at _ (file_state c.in-Ok.conn) (file_state c.read_kept.new.conn) _ _ idle (c.in-Ok.ensures.found early)
    (c.in-Ok-read_kept.ensures.reads late idle)

pub returns-in-Err-read_kept-clause-refuses : goal.returns-in-Err-read_kept-clause-refuses
returns-in-Err-read_kept-clause-refuses g c left_is =
    let sure : doubt (view c.into_store.result).is_clean ≡ 0 = no_doubt (view c.into_store.result).is_clean left_is in
    let clean : HasCleanDisk (file_state c.read_kept.new.conn) =
    omega (arith, c.into_store.ensures.quiet.clean, sure) in
    let early : HasCleanDisk (file_state c.in-Ok.conn) = omega (arith, c.read_kept.ensures.survives.clean, clean) in
    let idle = idle_if_opened (file_state c.in-Ok.conn) (c.in-Ok.ensures.opened early) in
    inr (refused_at _ (file_state c.in-Ok.conn) _ idle (c.in-Ok.ensures.found early)
    (c.in-Err-read_kept.ensures.refuses clean idle))

pub returns-in-Err-read_kept-clause-cause : goal.returns-in-Err-read_kept-clause-cause
returns-in-Err-read_kept-clause-cause g c left_is =
    let sure : doubt (view c.into_store.result).is_clean ≡ 0 = no_doubt (view c.into_store.result).is_clean left_is in
    let clean : HasCleanDisk (file_state c.read_kept.new.conn) =
    omega (arith, c.into_store.ensures.quiet.clean, sure) in
    let early : HasCleanDisk (file_state c.in-Ok.conn) = omega (arith, c.read_kept.ensures.survives.clean, clean) in
    let idle = idle_if_opened (file_state c.in-Ok.conn) (c.in-Ok.ensures.opened early) in
    left_of_state _ (Store c.into_store.result) (file_state c.read_kept.new.conn) _ c.into_store.ensures.quiet.counts
    (c.in-Err-read_kept.ensures.cause clean idle c.in-Ok.ensures.fresh.unlimited)

pub returns-in-Err-clause-cause : goal.returns-in-Err-clause-cause
returns-in-Err-clause-cause g c =
    either_left c.in-Err.left
    (λ none. named_unopened c.in-Err.error _ c.fault_of.ensures.named (c.in-Err.ensures.unopened none))
    (λ left it clean.
    let same = ap₂ image (ap₂ (seen g.S.Start.log g.S.Start.db) it.1.0 it.1.1)
    (ap₂ (seen g.S.Start.log g.S.Start.db) it.2.0 it.2.1) in
    left_of_open _ left it.0 c.in-Err.error _ c.fault_of.ensures.named same (it.3 clean).0)
    c.in-Err.ensures.cause
