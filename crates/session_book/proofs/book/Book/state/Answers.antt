use Rattle.std.proofs.Common.{subst}
use Rattle.session_book.specs.Journal.{IsAccepted}
use Rattle.session_book.proofs.book.Book.state.Goals as goal

pub returns-clause-accepted : goal.returns-clause-accepted
returns-clause-accepted c = subst (λ ledger. IsAccepted ledger.opening ledger.journal) c.self.view_is
    c.self.invariant.accepted
