use Rattle.std.proofs.Common.{◌≡◌, ◌∙◌, inl, ap, rules}
use Rattle.sqlite.specs.Effect.{Database}
use Rattle.journal_store.specs.Tables.{journal_schema}
use Rattle.sqlite.specs.State.{HasCleanDisk, IsUnchanged}
use Rattle.sqlite.specs.Held.{state}
use Rattle.journal_store.proofs.FailLemmas.{asked, asked_again, excused_comes_of}
use Rattle.journal_store.proofs.KeptLemmas.{reads_on, takes_on}
use Rattle.journal_store.proofs.taking.go_on.Goals as goal

pub returns-in-Ok-Some-clause-takes : goal.returns-in-Ok-Some-clause-takes
returns-in-Ok-Some-clause-takes g c clean idle =
    let a = state g.S.Store c.args.conn.now in
    let b = state g.S.Store c.is_session.new.conn in
    let d = state g.S.Store c.read_entries.new.conn in
    let early : HasCleanDisk b = c.read_entries.ensures.clean clean in
    let one : IsUnchanged a b = c.in-Ok-true.ensures.same early c.requires.journal in
    let has : b.now.schema ≡ journal_schema = ap (λ (d : Database). d.schema) one.0.now_is ∙ c.requires.journal in
    let two : IsUnchanged b d = c.in-Ok-Some.ensures.same clean has in
    takes_on a d _ _ (reads_on a b d _ _ idle c.requires.journal one two
    (λ is_open db may. g.met.S.Store.settled c.read_entries.new.conn.store db is_open may)
    (search rules) (search rules) (search rules))

pub returns-in-Err-clause-cause : goal.returns-in-Err-clause-cause
returns-in-Err-clause-cause g c clean idle unlimited =
    let a = state g.S.Store c.args.conn.now in
    let b = state g.S.Store c.is_session.new.conn in
    inl (excused_comes_of b c.in-Err.error _ c.fault_of.ensures.named
    (c.in-Err.ensures.fails clean (asked a idle c.requires.journal unlimited)))

pub returns-in-Err-read_entries-clause-cause : goal.returns-in-Err-read_entries-clause-cause
returns-in-Err-read_entries-clause-cause g c clean idle unlimited =
    let a = state g.S.Store c.args.conn.now in
    let b = state g.S.Store c.is_session.new.conn in
    let d = state g.S.Store c.read_entries.new.conn in
    let early : HasCleanDisk b = c.read_entries.ensures.clean clean in
    let may = asked_again a b (asked a idle c.requires.journal unlimited) (c.in-Ok-true.ensures.same early c.requires.journal)
    c.is_session.ensures.looks.limit in
    inl (excused_comes_of d c.in-Err-read_entries.error _ c.fault_of-in-Err-read_entries.ensures.named
    (c.in-Err-read_entries.ensures.fails clean may))
