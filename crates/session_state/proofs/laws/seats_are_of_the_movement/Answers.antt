use Rattle.session_state.proofs.EntryPlacedLemmas.{entry_placed}
use Rattle.session_state.proofs.laws.seats_are_of_the_movement.Goals as goal

pub returns : goal.returns
returns c = entry_placed
