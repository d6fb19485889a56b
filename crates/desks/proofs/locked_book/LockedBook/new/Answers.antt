use Rattle.std.proofs.Common.{sym, ap, ◌∙◌, subst}
use Rattle.history.specs.Prefixes.{entries_of}
use Rattle.displays.specs.Publishing.{Outgoing}
use Rattle.desks.specs.Kept.{IsKeptBy}
use Rattle.desks.proofs.KeptLemmas.{kept_just}
use Rattle.desks.proofs.locked_book.LockedBook.new.Goals as goal

pub invariant_of-result : goal.invariant_of-result
invariant_of-result g c =
    let is = c.new_unchecked.ensures in
    let doubt = g.K.EntryStore.doubt c.args.store in
    let shown = g.K.EntryStore.is_open c.args.store in
    let left = g.K.EntryStore.leaves c.args.store in (
      c.requires.opening,
      ap (λ (o : Outgoing). entries_of o.published) is ∙ c.requires.published.0,
      ap (λ (o : Outgoing). o.pending) is ∙ c.requires.published.1,
      subst (λ (o : Outgoing). IsKeptBy g.N.Server.opening o.published doubt shown left) (sym is)
          (kept_just g.N.Server.opening c.args.publisher.published doubt shown left c.requires.kept),
      c.requires.tally,
    )
