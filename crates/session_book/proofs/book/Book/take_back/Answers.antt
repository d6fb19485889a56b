use Rattle.std.proofs.Common.{sym, ap, ◌∙◌, subst}
use Rattle.session_state.specs.SessionState.{SessionState}
use Rattle.session_book.specs.Journal.{replay, IsAccepted}
use Rattle.session_book.specs.ExposureTable.{IsNoted}
use Rattle.session_book.proofs.JournalLemmas.{accepted_first}
use Rattle.session_book.proofs.OwnNumberLemmas.{deals_kept, notices_kept}
use Rattle.session_book.proofs.book.Book.take_back.Goals as goal

pub replay-requires-clause-deals : goal.replay-requires-clause-deals
replay-requires-clause-deals c =
    ap (λ (state : SessionState). state.deals) c.self.invariant.replayed
    ∙ deals_kept c.self.inside.opening c.self.inside.journal.items

pub replay-requires-clause-notices : goal.replay-requires-clause-notices
replay-requires-clause-notices c =
    ap (λ (state : SessionState). state.notices) c.self.invariant.replayed
    ∙ notices_kept c.self.inside.opening c.self.inside.journal.items

pub invariant_of-self : goal.invariant_of-self
invariant_of-self c =
    let opening = c.self.inside.opening in
    record {
      replayed = c.replay.ensures.state ∙ ap (replay opening) c.deref.ensures.value;
      accepted =
          subst (IsAccepted opening) (sym c.truncate.ensures.items)
          (accepted_first opening c.self.inside.journal.items c.args.version c.self.invariant.accepted);
      noted = subst (λ entries. IsNoted opening entries c.replay.new.state c.replay.new.exposure) c.deref.ensures.value
          c.replay.ensures.noted;
      boards = c.self.invariant.boards;
    }
