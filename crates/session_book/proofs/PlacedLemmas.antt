-- A seat has at most one user, and is one of the movement's, after any journal.
use Rattle.std.proofs.Common.{List, [], ◌∷◌, subst}
use Rattle.std.specs.List.{fold}
use Rattle.movement.specs.Movement.{Section}
use Rattle.session_state.specs.Apply.{apply}
use Rattle.session_state.specs.Seats.{AreSeatsOf}
use Rattle.session_state.specs.SessionState.{SessionState}
use Rattle.session_commands.specs.declared.entry.Entry.{Entry}
use Rattle.session_state.proofs.EntryPlacedLemmas.{entry_placed}
use Rattle.session_state.proofs.PartLemmas.{entry_part}
use Rattle.session_book.specs.Replay.{replay}

still_placed : (state : SessionState) (entries : List Entry) → AreSeatsOf state.public.movement state.seats →
    AreSeatsOf state.public.movement (fold apply state entries).seats
still_placed state [] are = are
still_placed state (entry ∷ entries) are =
    subst (λ (section : Section). AreSeatsOf section (fold apply (apply state entry) entries).seats)
    (entry_part state entry).movement
    (still_placed (apply state entry) entries (entry_placed state entry are))

pub placed_after : (opening : SessionState) (journal : List Entry) → AreSeatsOf opening.public.movement opening.seats →
    AreSeatsOf opening.public.movement (replay opening journal).seats
unfolding replay
placed_after opening journal are = still_placed opening journal are
