use Rattle.std.proofs.Common.{◌≡◌, ap, arith}
use Rattle.movement.specs.Movement.{boards_of}
use Rattle.session_book.specs.Journal.{Ledger}
use Rattle.session_book.proofs.book.Book.is_noted.Goals as goal

pub contains-requires-clause-to : goal.contains-requires-clause-to
contains-requires-clause-to c =
    let same : boards_of c.self.inside.opening.public.movement ≡ boards_of c.args.self.now.opening.public.movement =
    ap (λ (ledger : Ledger). boards_of ledger.opening.public.movement) c.self.view_is in
    let few = c.self.invariant.boards in
    let to = c.requires.to in
    omega (arith, same, few, to)
