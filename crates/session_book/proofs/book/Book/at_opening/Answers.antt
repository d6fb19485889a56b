use Rattle.std.proofs.Common.{[], sym, ap, ◌∙◌, subst}
use Rattle.session_book.specs.ExposureTable.{IsNoted}
use Rattle.session_book.specs.Journal.{IsAccepted}
use Rattle.session_book.specs.Replay.{replay}
use Rattle.session_book.proofs.book.Book.at_opening.Goals as goal

pub invariant_of-result : goal.invariant_of-result
unfolding replay
invariant_of-result c =
    let opening = c.args.opening in
    record {
      replayed = c.in-Ok.ensures ∙ ap (replay opening) (sym c.in_ok-journal.ensures.items);
      accepted = subst (IsAccepted opening) (sym c.in_ok-journal.ensures.items) tt;
      noted =
          subst (λ entries. IsNoted opening entries c.in-Ok.state c.in_ok-exposure.exposure)
          (sym c.in_ok-journal.ensures.items)
          (subst (λ state. IsNoted opening [] state c.in_ok-exposure.exposure) (sym c.in-Ok.ensures)
          c.in_ok-exposure.ensures.noted);
      boards = c.in_ok-exposure.ensures.boards;
    }
