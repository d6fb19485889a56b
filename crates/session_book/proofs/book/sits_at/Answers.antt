use Rattle.std.proofs.Common.{None, ◌∙◌}
use Rattle.disclosure_rules.specs.Seating.{is_seated_at}
use Rattle.session_state.specs.SessionState.{authorized_of, seat_of}
use Rattle.session_book.proofs.OnlookerLemmas.{seated_so, sits_alike}
use Rattle.session_book.proofs.book.sits_at.Goals as goal

pub returns : goal.returns
returns c =
    let state = c.args.state.now in
    c.is_seated_at.ensures
    ∙ (λ i. is_seated_at (c.public.ensures.public i) (seated_so None (c.seat.ensures i)) c.args.cell)
    ∙ sits_alike state.public None (authorized_of state c.args.user) (seat_of state c.args.user) c.args.cell
