use Rattle.std.proofs.Common.{◌≡◌, ◌<◌, List, ◌++◌, ◌∷◌, [], length, ap, sym, subst, rules}
use Rattle.session_commands.specs.declared.entry.Entry.{Entry}
use Rattle.entry_store.specs.Keeping.{LeavesNoneOrOne}
use Rattle.history.specs.Prefixes.{entries_of}
use Rattle.displays.specs.Copies.{IsPublished}
use Rattle.displays.specs.Publishing.{Outgoing}
use Rattle.displays.proofs.PublishingLemmas.{published_more}
use Rattle.desks.specs.Kept.{IsKeptBy}
use Rattle.desks.proofs.BatchLemmas.{first_grown, last_grown, entries_of_grows}
use Rattle.desks.proofs.KeptLemmas.{kept_none_or_one}
use Rattle.desks.proofs.batches.show.Goals as goal

pub returns-in-Err-clause-kept : goal.returns-in-Err-clause-kept
returns-in-Err-clause-kept g c kept =
    let opening = g.N.Server.opening in
    let l = c.args.publisher.now in
    let some : 0 < length l.pending = search rules in
    let allowed : IsPublished opening (l.published ++ l.pending ∷ []) =
    published_more opening l.published l.pending c.tell-told.ensures.published c.pending.ensures.accepted some in
    let doubt = g.K.EntryStore.doubt c.args.store.now in
    let later = g.K.EntryStore.doubt c.keep.new.self in
    let before = g.K.EntryStore.leaves c.args.store.now in
    let after = g.K.EntryStore.leaves c.keep.new.self in
    let shown = g.K.EntryStore.is_open c.keep.new.self in
    let leaves : later ≡ 0 → LeavesNoneOrOne c.in-Err.fault shown before l.pending after =
    subst (λ (more : List Entry). later ≡ 0 → LeavesNoneOrOne c.in-Err.fault shown before more after) c.pending.ensures.entries
    c.in-Err.ensures.fault.1 in
    subst (λ (o : Outgoing). IsKeptBy opening o.published later shown after) (sym c.drop_pending.ensures)
    (kept_none_or_one opening l.published l.pending doubt later before after c.in-Err.fault shown
    c.in-Err.ensures.clean kept allowed leaves)

pub returns-clause-receipt : goal.returns-clause-receipt
returns-clause-receipt g c =
    let l = c.args.publisher.now in
    let some : 0 < length l.pending = search rules in
    let now : c.publish.new.self.published ≡ l.published ++ l.pending ∷ [] = ap (λ (x : Outgoing). x.published)
    c.publish.ensures.line in
    let less : length (entries_of l.published) < length (entries_of c.publish.new.self.published) =
    rw now (entries_of_grows l.published l.pending some) in
    rw (first_grown _ _ less, last_grown _ _ less) c.publish.ensures.receipt
