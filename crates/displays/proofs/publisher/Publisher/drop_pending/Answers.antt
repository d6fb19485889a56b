use Rattle.std.proofs.Common.{List, ◌++◌, append-nil, sym, subst}
use Rattle.session_commands.specs.declared.entry.Entry.{Entry}
use Rattle.session_book.specs.Journal.{IsAccepted}
use Rattle.history.specs.Prefixes.{entries_of}
use Rattle.displays.proofs.publisher.Publisher.drop_pending.Goals as goal

pub invariant_of-self : goal.invariant_of-self
invariant_of-self g c =
    let i = c.self.invariant in
    let bs = c.self.inside.writer.desk.shown.value.prefix.publications in (
      i.0,
      i.1,
      i.2,
      subst (λ (l : List Entry). IsAccepted g.N.Server.opening (entries_of bs ++ l)) (sym c.clear.ensures.items)
          (subst (IsAccepted g.N.Server.opening) (sym (append-nil (entries_of bs))) i.0.published.accepted),
      i.4,
    )
