use Rattle.std.proofs.Common.{◌≡◌, List, [], length, sym, ap, ◌∙◌, append-nil}
use Rattle.session_commands.specs.declared.entry.Entry.{Entry}
use Rattle.history.specs.Prefixes.{entries_of}
use Rattle.displays.specs.Publishing.{Outgoing}
use Rattle.desks.proofs.BatchLemmas.{shows_journal, drops_pending, goes_back}
use Rattle.desks.proofs.batches.batch.Goals as goal

pub returns-in-Ok-show-clause-published : goal.returns-in-Ok-show-clause-published
returns-in-Ok-show-clause-published g c =
    shows_journal c.run_batch.new.publisher c.show.new.publisher c.run_batch.new.book.journal c.in-Ok-show.ensures.line
    c.run_batch.ensures.published.1

pub returns-in-Ok-show-clause-receipt : goal.returns-in-Ok-show-clause-receipt
returns-in-Ok-show-clause-receipt g c =
    let before : length (entries_of c.run_batch.new.publisher.published) ≡ length c.args.book.now.journal =
    ap (λ (l : List (List Entry)). length (entries_of l)) c.run_batch.ensures.published.0
    ∙ ap (λ (l : List Entry). length l) c.requires.published.0 in
    let now : entries_of c.show.new.publisher.published ≡ c.run_batch.new.book.journal =
    (shows_journal c.run_batch.new.publisher c.show.new.publisher c.run_batch.new.book.journal c.in-Ok-show.ensures.line
    c.run_batch.ensures.published.1).0 in
    let after : length (entries_of c.show.new.publisher.published) ≡ length c.run_batch.new.book.journal =
    ap (λ (l : List Entry). length l) now in
    rw (← before, ← after) c.in-Ok-show.ensures.receipt

pub returns-in-Err-clause-published : goal.returns-in-Err-clause-published
returns-in-Err-clause-published g c =
    let same : c.show.new.publisher ≡ c.args.publisher.now =
    drops_pending c.args.publisher.now c.run_batch.new.publisher c.show.new.publisher c.run_batch.ensures.published.0
    c.requires.published.1 c.in-Err.ensures.none in
    let back : c.take_back.new.self.journal ≡ c.args.book.now.journal =
    goes_back c.args.publisher.now c.run_batch.new.publisher c.args.book.now.journal c.run_batch.new.book.journal
    c.take_back.new.self.journal c.version-before.result c.requires.published.0 c.run_batch.ensures.published.0
    c.run_batch.ensures.published.1 c.version-before.ensures.version c.take_back.ensures.journal in (
      ap (λ (l : Outgoing). entries_of l.published) same ∙ (c.requires.published.0 ∙ sym back),
      ap (λ (l : Outgoing). l.pending) same ∙ c.requires.published.1,
    )

pub returns-in-Err-clause-once : goal.returns-in-Err-clause-once
returns-in-Err-clause-once g c =
    let same : c.show.new.publisher ≡ c.args.publisher.now =
    drops_pending c.args.publisher.now c.run_batch.new.publisher c.show.new.publisher c.run_batch.ensures.published.0
    c.requires.published.1 c.in-Err.ensures.none in
    let back : c.take_back.new.self.journal ≡ c.args.book.now.journal =
    goes_back c.args.publisher.now c.run_batch.new.publisher c.args.book.now.journal c.run_batch.new.book.journal
    c.take_back.new.self.journal c.version-before.result c.requires.published.0 c.run_batch.ensures.published.0
    c.run_batch.ensures.published.1 c.version-before.ensures.version c.take_back.ensures.journal in (
      [],
      back ∙ sym (append-nil c.args.book.now.journal),
      ap (λ (l : Outgoing). l.published) same,
    )

pub returns-in-Err-clause-none : goal.returns-in-Err-clause-none
returns-in-Err-clause-none g c = (
  goes_back c.args.publisher.now c.run_batch.new.publisher c.args.book.now.journal c.run_batch.new.book.journal
      c.take_back.new.self.journal c.version-before.result c.requires.published.0 c.run_batch.ensures.published.0
      c.run_batch.ensures.published.1 c.version-before.ensures.version c.take_back.ensures.journal,
  drops_pending c.args.publisher.now c.run_batch.new.publisher c.show.new.publisher c.run_batch.ensures.published.0
      c.requires.published.1 c.in-Err.ensures.none,
)
