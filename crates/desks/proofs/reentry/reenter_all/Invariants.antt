use Rattle.std.proofs.Common.{◌≡◌, ◌++◌, [], take, map}
use Rattle.history.specs.Prefixes.{entries_of}
use Rattle.desks.proofs.reentry.reenter_all.Given as goal

abbrev pub invariant-loop-publication : goal.invariant-loop-publication
invariant-loop-publication g l = record {
  opening : l.book.opening ≡ g.N.Server.opening;
  published : entries_of l.publisher.published ≡ l.book.journal;
  pending : l.publisher.pending ≡ [];
  shown : l.publisher.published
      ≡ l.fn.publisher.published ++ map (λ publication. publication.items) (take l.publication-index l.publications);
}
