use Rattle.std.proofs.Common.{◌≡◌, ◌↔◌, true, List, ap, ◌∙◌, sym, subst}
use Rattle.std.specs.Mem.{manually_drop_value}
use mathlib.Core.List.{IsPrefix}
use Rattle.session_commands.specs.declared.entry.Entry.{Entry}
use Rattle.history.specs.Prefixes.{entries_of}
use Rattle.history.proofs.PrefixLemmas.{entries_of_prefix}
use Rattle.displays.specs.Copies.{IsPublished}
use Rattle.displays.specs.Publishing.{Outgoing}
use Rattle.desks.specs.Batch.{KeptPublications}
use Rattle.desks.specs.Kept.{LeavesAll}
use Rattle.desks.proofs.KeptLemmas.{kept_seen}
use Rattle.desks.proofs.locked_book.LockedBook.has_seen.Goals as goal

pub returns-clause-seen : goal.returns-clause-seen
returns-clause-seen g c =
    let shown = c.deref-2.result.now.published in
    let seen = c.args.display.now in
    let same : shown ≡ c.args.self.now.published =
    ap (λ (l : Outgoing). l.published) c.deref-2.ensures
    ∙ ap (λ (s : KeptPublications g.row.K.Denot). s.published) c.self.view_is in
    subst (λ (l : List (List Entry)). (c.is_behind.result ≡ true) ↔ IsPrefix seen l) same c.is_behind.ensures.begins

pub returns-clause-begins : goal.returns-clause-begins
returns-clause-begins g c is =
    let shown = c.deref-2.result.now.published in
    let seen = c.args.display.now in
    let begins : IsPrefix seen shown = c.is_behind.ensures.begins.0 is in
    let same : shown ≡ c.args.self.now.published =
    ap (λ (l : Outgoing). l.published) c.deref-2.ensures
    ∙ ap (λ (s : KeptPublications g.row.K.Denot). s.published) c.self.view_is in
    subst (λ (l : List (List Entry)). IsPrefix (entries_of seen) (entries_of l)) same
    (entries_of_prefix seen shown begins)

pub returns-clause-kept : goal.returns-clause-kept
returns-clause-kept g c is =
    let opening = g.N.Server.opening in
    let shown = c.deref-2.result.now.published in
    let seen = c.args.display.now in
    let begins : IsPrefix seen shown = c.is_behind.ensures.begins.0 is in
    let inside = c.self.inside in
    let here = (manually_drop_value inside.publisher).published in
    let allowed : IsPublished opening here =
    subst (λ (o : Outgoing). IsPublished opening o.published) c.deref.ensures c.tell-published.ensures.published in
    subst (λ (s : KeptPublications g.row.K.Denot). LeavesAll opening seen (g.K.EntryStore.doubt s.store)
    (g.K.EntryStore.leaves s.store)) c.self.view_is
    (kept_seen opening seen here (g.K.EntryStore.doubt inside.store) (g.K.EntryStore.is_open inside.store)
    (g.K.EntryStore.leaves inside.store) c.self.invariant.3
    (subst (λ (o : Outgoing). IsPrefix seen o.published) c.deref-2.ensures begins) allowed)
