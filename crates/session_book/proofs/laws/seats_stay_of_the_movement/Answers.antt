use Rattle.session_book.proofs.PlacedLemmas.{placed_after}
use Rattle.session_book.proofs.laws.seats_stay_of_the_movement.Goals as goal

pub returns : goal.returns
returns c = placed_after
