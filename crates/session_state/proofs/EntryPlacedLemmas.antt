-- Each entry leaves a seat with at most one user, at a pair of the movement's.
use Rattle.std.proofs.Common.{◌≡◌, refl}
use Rattle.std.specs.Prelude.{Option, Some, None, is_some, if◌then◌else◌}
use Rattle.movement.specs.declared.cell.Cell.{Cell}
use Rattle.session_commands.specs.declared.cell_state.CellState.{CellState}
use Rattle.session_commands.specs.declared.cell_state.CellState.TheVariants.{Empty}
use Rattle.session_commands.specs.declared.command.Command.{Command}
use Rattle.session_commands.specs.declared.command.Command.TheVariants.{Confirm, Seat, Unseat}
use Rattle.session_commands.specs.declared.entry.Entry.{Entry}
use Rattle.session_commands.specs.declared.refusal.Refusal.{Refusal}
use Rattle.session_state.specs.Apply.{apply, effect, confirmed}
use Rattle.session_state.specs.Refusal.{hindrance_of}
use Rattle.session_state.specs.Seats.{AreSeatsOf}
use Rattle.session_state.specs.SessionState.{SessionState, cell_at}
use Rattle.session_state.proofs.PlacedLemmas.{one_less_placed}
use Rattle.session_state.proofs.SeatCauseLemmas.{seats_still_placed}

-- the state's seats are of its movement
abbrev ArePlaced : SessionState → Type 0
ArePlaced state = AreSeatsOf state.public.movement state.seats

module _ (state : SessionState) (are : ArePlaced state) where
  confirmed_placed : (cell : Cell) (known : CellState) → ArePlaced (confirmed state cell known)
  confirmed_placed cell Empty = are
  confirmed_placed cell known = are

  effect_placed : (command : Command) → hindrance_of state command ≡ None → ArePlaced (effect state command)
  effect_placed (Confirm cell outcome) unhindered = confirmed_placed _ (cell_at state cell)
  effect_placed (Seat name pair place) unhindered = seats_still_placed state name pair place unhindered are
  effect_placed (Unseat name) unhindered = one_less_placed state.public.movement state.seats name are
  effect_placed command unhindered = are

pub entry_placed : (state : SessionState) (entry : Entry) → AreSeatsOf state.public.movement state.seats →
    AreSeatsOf (apply state entry).public.movement (apply state entry).seats
entry_placed state entry are = by_hindrance (hindrance_of state entry.command) refl
  where
    by_hindrance : (found : Option Refusal) → hindrance_of state entry.command ≡ found →
        ArePlaced (if is_some found then state else effect state entry.command)
    by_hindrance (Some cause) found = are
    by_hindrance None found = effect_placed state are entry.command found
