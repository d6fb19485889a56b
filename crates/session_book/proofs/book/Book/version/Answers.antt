use Rattle.std.proofs.Common.{arith}
use Rattle.session_book.proofs.JournalLemmas.{accepted_length}
use Rattle.session_book.proofs.book.Book.version.Goals as goal

pub returns-clause-few : goal.returns-clause-few
returns-clause-few c =
    let few = accepted_length c.self.inside.opening c.self.inside.journal.items c.self.invariant.accepted in
    omega (arith, few, c.self.inside.journal.ok.0, c.len.ensures)
