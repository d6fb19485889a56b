use Rattle.std.proofs.Common.{sym, ap, ◌∙◌, subst}
use Rattle.movement.specs.Movement.{boards_of}
use Rattle.session_book.specs.ExposureTable.{IsNoted}
use Rattle.session_book.specs.Journal.{replay, MayFollow, IsAccepted}
use Rattle.session_book.proofs.JournalLemmas.{accepted_more}
use Rattle.session_book.proofs.book.Book.commit.Goals as goal

pub invariant_of-self : goal.invariant_of-self
invariant_of-self c =
    let opening = c.self.inside.opening in
    let journal = c.self.inside.journal.items in
    let led = c.absorb.ensures opening journal (c.boards-boards.ensures.boards
    ∙ ap (λ ledger. boards_of ledger.opening.public.movement) (sym c.self.view_is)) c.self.invariant.replayed
    c.self.invariant.noted in
    record {
      replayed = led.0 ∙ ap (replay opening) (sym c.put_copy.ensures.items);
      accepted =
          subst (IsAccepted opening) (sym c.put_copy.ensures.items)
          (accepted_more opening journal c.args.entry c.self.invariant.accepted
          (subst (λ ledger. MayFollow ledger.opening ledger.journal c.args.entry) (sym c.self.view_is)
          c.requires.accepted));
      noted =
          subst (λ entries. IsNoted opening entries c.absorb.new.state c.absorb.new.exposure)
          (sym c.put_copy.ensures.items) led.1;
      boards = c.self.invariant.boards;
    }
