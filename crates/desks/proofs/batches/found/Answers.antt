use Rattle.std.proofs.Common.{◌≡◌, List, ◌++◌, ◌∷◌, [], length, ap, ◌∙◌, rules}
use Rattle.session_commands.specs.declared.entry.Entry.{Entry}
use Rattle.session_book.specs.Journal.{Ledger}
use Rattle.history.specs.Prefixes.{entries_of}
use Rattle.displays.specs.Publishing.{Outgoing}
use Rattle.desks.proofs.BatchLemmas.{shows_journal, one_entered}
use Rattle.desks.proofs.batches.found.Goals as goal

pub returns-in-Ok-show-clause-published : goal.returns-in-Ok-show-clause-published
returns-in-Ok-show-clause-published g c =
    let old = c.args.publisher.now in
    let appended : c.append.new.self
    ≡ record { published = old.published; pending = old.pending ++ c.in-Ok.entry ∷ [] } = search rules in
    shows_journal c.append.new.self c.show.new.publisher c.commit.new.self.journal c.in-Ok-show.ensures.line
    (one_entered old c.append.new.self c.in-Ok.entry c.args.book.now.journal c.check.new.self.journal
    c.commit.new.self.journal c.requires.published.0 c.requires.published.1 appended
    (ap (λ (l : Ledger). l.journal) c.in-Ok.ensures.same) c.commit.ensures.journal)

pub returns-in-Ok-show-clause-receipt : goal.returns-in-Ok-show-clause-receipt
returns-in-Ok-show-clause-receipt g c =
    let old = c.args.publisher.now in
    let appended : c.append.new.self
    ≡ record { published = old.published; pending = old.pending ++ c.in-Ok.entry ∷ [] } = search rules in
    let before : length (entries_of c.append.new.self.published) ≡ length c.args.book.now.journal =
    ap (λ (o : Outgoing). length (entries_of o.published)) appended
    ∙ ap (λ (l : List Entry). length l) c.requires.published.0 in
    let now : entries_of c.show.new.publisher.published ≡ c.commit.new.self.journal =
    (shows_journal c.append.new.self c.show.new.publisher c.commit.new.self.journal c.in-Ok-show.ensures.line
    (one_entered old c.append.new.self c.in-Ok.entry c.args.book.now.journal c.check.new.self.journal
    c.commit.new.self.journal c.requires.published.0 c.requires.published.1 appended
    (ap (λ (l : Ledger). l.journal) c.in-Ok.ensures.same) c.commit.ensures.journal)).0 in
    let after : length (entries_of c.show.new.publisher.published) ≡ length c.commit.new.self.journal =
    ap (λ (l : List Entry). length l) now in
    rw (← before, ← after) c.in-Ok-show.ensures.receipt
