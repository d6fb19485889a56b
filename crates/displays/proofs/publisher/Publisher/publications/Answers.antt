use Rattle.std.proofs.Common.{◌≤◌, length, subst}
use Rattle.history.specs.Prefixes.{entries_of}
use Rattle.displays.specs.Publishing.{Outgoing}
use Rattle.displays.proofs.PublishingLemmas.{none_empty_length}
use Rattle.displays.proofs.publisher.Publisher.publications.Goals as goal

pub returns-clause-few : goal.returns-clause-few
returns-clause-few g c =
    let bs = c.self.inside.writer.desk.shown.value.prefix.publications in
    let few : length bs ≤ length (entries_of bs) = none_empty_length bs c.self.invariant.0.published.none_empty in
    rw (c.count.ensures, c.prefix.ensures, c.published.ensures)
    (subst (λ (l : Outgoing). length bs ≤ length (entries_of l.published)) c.self.view_is few)
