use Rattle.std.proofs.Common.{ap, sym, ◌∙◌}
use Rattle.history.specs.Prefixes.{entries_of}
use Rattle.displays.specs.Publishing.{Outgoing}
use Rattle.displays.proofs.PublishingLemmas.{entries_of_more}
use Rattle.desks.proofs.ReentryLemmas.{only_memory}
use Rattle.desks.proofs.reentry.reenter.Goals as goal

pub returns-in-Err-clause-complete : goal.returns-in-Err-clause-complete
returns-in-Err-clause-complete g c some follow =
    only_memory c.in-Err.fault g.N.Server.opening c.args.book.now.journal c.args.entries.now c.enter_all.new.book.journal
    c.in-Err.ensures.fault.1 some follow

pub returns-clause-published : goal.returns-clause-published
returns-clause-published g c = (
  ap (λ (o : Outgoing). entries_of o.published) c.publish-receipt.ensures.line
      ∙ (entries_of_more c.enter_all.new.publisher.published c.enter_all.new.publisher.pending
      ∙ sym c.enter_all.ensures.journal),
  ap (λ (o : Outgoing). o.pending) c.publish-receipt.ensures.line,
)
