use Rattle.std.proofs.Common.{arith}
use Rattle.session_state.proofs.SeatLemmas.{seats_are_few}
use Rattle.session_state.proofs.state.State.copy_from.Goals as goal

pub refill-requires-3 : goal.refill-requires-3
refill-requires-3 c =
    let other = c.other.inside in
    let few = seats_are_few other.roles other.seats.items c.other.invariant.seated in
    omega (arith, few, c.other.invariant.users, c.self.invariant.seats)
