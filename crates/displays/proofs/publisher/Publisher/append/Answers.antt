use Rattle.std.proofs.Common.{◌++◌, sym, subst}
use Rattle.std.specs.Prelude.{is_ok}
use Rattle.session_book.specs.Journal.{MayFollow}
use Rattle.history.specs.Prefixes.{entries_of}
use Rattle.displays.specs.Publishing.{Outgoing}
use Rattle.displays.proofs.PublishingLemmas.{append_kept}
use Rattle.displays.proofs.publisher.Publisher.append.Goals as goal

pub invariant_of-self : goal.invariant_of-self
invariant_of-self g c =
    let i = c.self.invariant in
    let s = c.self.inside in
    let bs = s.writer.desk.shown.value.prefix.publications in
    let may : MayFollow g.N.Server.opening (entries_of bs ++ s.pending.items) c.args.entry.now =
    subst (λ (l : Outgoing). MayFollow g.N.Server.opening (entries_of l.published ++ l.pending) c.args.entry.now)
    (sym c.self.view_is) c.requires in (
      i.0,
      i.1,
      i.2,
      append_kept g.N.Server.opening bs s.pending.items c.args.entry.now c.push.new.self.items
          (is_ok c.push.result) i.3 may c.push.ensures.items,
      i.4,
    )
