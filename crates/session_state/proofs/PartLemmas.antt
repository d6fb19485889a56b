-- A command changes the part of a state that it is about, and no other.
use Rattle.std.proofs.Common.{◌≡◌, ◌≢◌, Bool, true, false, refl, sym, ap}
use Rattle.std.specs.Prelude.{Option, Some, None, is_some, not, if◌then◌else◌}
use Rattle.std.proofs.lemmas.Bool.{false≢true}
use Rattle.movement.specs.declared.cell.Cell.{Cell}
use Rattle.movement.specs.Movement.{IsSection}
use Rattle.movement.specs.Schedule.{is_scheduled}
use Rattle.session_state.proofs.movement_lemmas.CellLemmas.{cell_in_range}
use Rattle.session_state.proofs.movement_lemmas.ScheduleTests.{scheduled-cell}
use Rattle.disclosure_rules.specs.Seating.{some_that}
use Rattle.session_commands.specs.declared.cell_state.CellState.{CellState}
use Rattle.session_commands.specs.declared.cell_state.CellState.TheVariants.{Entered, Confirmed}
use Rattle.session_commands.specs.declared.command.Command.{Command}
use Rattle.session_commands.specs.declared.command.Command.TheVariants.{
  Enter,
  Confirm,
  Correct,
  Rule,
  Void,
  AddUser,
  Analysed,
}
use Rattle.session_commands.specs.declared.entry.Entry.{Entry}
use Rattle.session_commands.specs.declared.refusal.Refusal.{Refusal}
use Rattle.session_state.specs.Apply.{apply, effect, part_of, confirmed}
use Rattle.session_commands.specs.Command.{subject_cell}
use Rattle.session_state.specs.Parts.{Part, Results, IsSameBut}
use Rattle.session_state.specs.Refusal.{hindrance_of}
use Rattle.session_state.specs.SessionState.{SessionState, cell_at, with_cell, cell_index, IsPlaced}
use Rattle.session_state.proofs.HindranceLemmas.{cell_unhindered}
use Rattle.session_state.proofs.LiveLemmas.{own_place, known_elsewhere}
use Rattle.session_state.proofs.ScheduleLemmas.{placed}

-- what is in the part that may change need not be the same
its_own : {A : Type 0} {part : Part} → part ≢ part → A
its_own other = absurd (other refl)

-- nor what is in two parts, where one of them may change
in_two : {A : Type 0} {part second : Part} → part ≢ part → part ≢ second → A
in_two other also = absurd (other refl)

-- what is in another part is the same
module _ (state : SessionState) where
  same : (part : Part) → IsSameBut part state state
  same part = search

  confirmed_part : (cell : Cell) (known : CellState) → IsSameBut Results state (confirmed state cell known)
  confirmed_part cell (Entered outcome play) = search its_own
  confirmed_part cell known = search

  effect_part : (command : Command) → IsSameBut (part_of command) state (effect state command)
  effect_part (Confirm cell outcome) = confirmed_part cell (cell_at state cell)
  effect_part (AddUser name digest) = search (its_own, in_two)
  effect_part command = search its_own

-- an entry changes one part at most
pub entry_part : (state : SessionState) (entry : Entry) → IsSameBut (part_of entry.command) state (apply state entry)
entry_part state entry = by_hindrance (is_some (hindrance_of state entry.command))
  where
    by_hindrance : (b : Bool) → IsSameBut (part_of entry.command) state
        (if b then state else effect state entry.command)
    by_hindrance true = same state (part_of entry.command)
    by_hindrance false = effect_part state entry.command

-- another cell keeps what is known of it
module _ (state : SessionState) (own cell : Cell) (placed_own : IsPlaced own) (placed_cell : IsPlaced cell)
    (other : own ≢ cell) where
  apart : cell_index cell ≢ cell_index own
  apart same = let both = own_place own cell placed_own placed_cell same in
      other (λ i. record { table = sym both.1 i; board = sym both.0 i })

  kept_elsewhere : (known : CellState) → cell_at (with_cell state own known) cell ≡ cell_at state cell
  kept_elsewhere known = known_elsewhere state.cells own cell known apart

  kept_confirmed : (known : CellState) → cell_at (confirmed state own known) cell ≡ cell_at state cell
  kept_confirmed (Entered outcome play) = kept_elsewhere (Confirmed outcome play None)
  kept_confirmed known = refl

no_other : {cell : Cell} (own : Cell) → Some own ≢ Some cell → own ≢ cell
no_other own other same = other (ap Some same)

not_false : (b : Bool) → not b ≡ false → b ≡ true
not_false true none = refl
not_false false none = absurd (false≢true (sym none))

-- a place is kept for a scheduled cell
pub scheduled_placed : (state : SessionState) (own : Cell) → IsSection state.public.movement →
    not (is_scheduled state.public.movement own) ≡ false → IsPlaced own
scheduled_placed state own is_section scheduled =
    placed state.public.movement own is_section (cell_in_range state.public.movement own is_section
    (scheduled-cell state.public.movement own (not_false _ scheduled)))

effect_elsewhere : (state : SessionState) (command : Command) (cell : Cell) → IsSection state.public.movement →
    IsPlaced cell → hindrance_of state command ≡ None →
    subject_cell command ≢ Some cell → cell_at (effect state command) cell ≡ cell_at state cell
effect_elsewhere state command cell is_section placed_cell unhindered other = by_command command
    (cell_unhindered state command unhindered) other
  where
    own_placed : (own : Cell) → not (is_scheduled state.public.movement own) ≡ false → IsPlaced own
    own_placed own scheduled = scheduled_placed state own is_section scheduled

    by_command : (command : Command) → some_that (subject_cell command)
        (λ own. not (is_scheduled state.public.movement own)) ≡ false →
        subject_cell command ≢ Some cell → cell_at (effect state command) cell ≡ cell_at state cell
    by_command (Enter own outcome play) there other = kept_elsewhere state _ cell (own_placed _ there)
        placed_cell (no_other _ other) _
    by_command (Confirm own outcome) there other = kept_confirmed state _ cell (own_placed _ there) placed_cell
        (no_other _ other) _
    by_command (Correct own outcome play) there other = kept_elsewhere state _ cell (own_placed _ there)
        placed_cell (no_other _ other) _
    by_command (Rule own north_south east_west reason) there other = kept_elsewhere state _ cell
        (own_placed _ there) placed_cell (no_other _ other) _
    by_command (Void own) there other = kept_elsewhere state _ cell (own_placed _ there) placed_cell
        (no_other _ other) _
    by_command (Analysed own costs) there other = kept_elsewhere state _ cell (own_placed _ there) placed_cell
        (no_other _ other) _
    by_command command there other = refl

-- an entry changes what is known of its own cell alone
pub entry_elsewhere : (state : SessionState) (entry : Entry) (cell : Cell) → IsSection state.public.movement →
    IsPlaced cell →
    subject_cell entry.command ≢ Some cell → cell_at (apply state entry) cell ≡ cell_at state cell
entry_elsewhere state entry cell is_section placed_cell other = by_hindrance (hindrance_of state entry.command) refl
  where
    by_hindrance : (found : Option Refusal) → hindrance_of state entry.command ≡ found →
        cell_at (if is_some found then state else effect state entry.command) cell ≡ cell_at state cell
    by_hindrance (Some cause) found = refl
    by_hindrance None found = effect_elsewhere state entry.command cell is_section placed_cell found other
