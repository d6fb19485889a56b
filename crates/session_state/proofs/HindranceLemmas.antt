-- What holds where nothing hinders a command.
use Rattle.std.proofs.Common.{◌≡◌, ◌<◌, Bool, true, false, List, [], ◌∷◌, refl, sym, ◌∙◌, inl, inr}
use Rattle.std.specs.Prelude.{Option, Some, None, not, nat_le}
use Rattle.std.specs.Bool.{then_some}
use Rattle.std.specs.Option.{option_or}
use Rattle.std.proofs.lemmas.Bool.{false≢true, cases_lt, le-leb}
use Rattle.cards.specs.declared.card.Card.{Card}
use Rattle.movement.specs.declared.cell.Cell.{Cell}
use Rattle.movement.specs.Schedule.{is_scheduled}
use Rattle.scoring.specs.declared.outcome.Outcome.{Outcome}
use Rattle.disclosure_rules.specs.Seating.{some_that}
use Rattle.session_commands.specs.declared.command.Command.{Command}
use Rattle.session_commands.specs.declared.command.Command.TheVariants.{Enter, NextRound}
use Rattle.session_commands.specs.declared.refusal.Refusal.{Refusal}
use Rattle.session_commands.specs.declared.refusal.Refusal.TheVariants.{
  NoSuchUser,
  NoSuchCell,
  NoSuchBoard,
  WrongPhase,
  RoundNotStarted,
  BadResult,
  AlreadyLive,
  NoMoreRounds,
}
use Rattle.session_state.specs.Accounts.{has_account}
use Rattle.session_commands.specs.CellState.{has_result}
use Rattle.session_commands.specs.Command.{phases_of, subject_user, subject_cell, subject_board, is_among}
use Rattle.movement.specs.Movement.{has_board}
use Rattle.session_state.specs.Refusal.{first_cause, is_bad_result, is_early, own_causes, hindrance_of}
use Rattle.session_state.specs.SessionState.{SessionState, cell_at}

-- what nothing refuses, no cause refuses
pub rest_none : (cause rest : Option Refusal) → option_or cause rest ≡ None → (cause ≡ None) × (rest ≡ None)
rest_none (Some cause) rest none = absurd cc
rest_none None rest none = (refl, none)

-- where none of a list of causes is met, neither is the first, nor one of the others
pub first_unmet : (cause : Option Refusal) (causes : List (Option Refusal)) → first_cause (cause ∷ causes) ≡ None →
    cause ≡ None
first_unmet cause causes none = (rest_none cause (first_cause causes) none).0

pub rest_unmet : (cause : Option Refusal) (causes : List (Option Refusal)) → first_cause (cause ∷ causes) ≡ None →
    first_cause causes ≡ None
rest_unmet cause causes none = (rest_none cause (first_cause causes) none).1

-- a cause that isn't met
pub not_met : (met : Bool) (cause : Refusal) → then_some met cause ≡ None → met ≡ false
not_met true cause none = absurd cc
not_met false cause none = refl

-- a command that nothing hinders: the user that it is about has an account, the cell is scheduled, and none of its own
-- causes is met
module _ (state : SessionState) (command : Command) (unhindered : hindrance_of state command ≡ None) where
  stranger : Option Refusal
  stranger = then_some (some_that (subject_user command) (λ name. not (has_account state.roles name))) NoSuchUser

  no_cell : Option Refusal
  no_cell = then_some (some_that (subject_cell command) (λ cell. not (is_scheduled state.public.movement cell)))
      NoSuchCell

  no_board : Option Refusal
  no_board = then_some (some_that (subject_board command) (λ board. not (has_board state.public.movement board)))
      NoSuchBoard

  other_phase : Option Refusal
  other_phase = then_some (not (is_among (phases_of command) state.public.phase)) WrongPhase

  too_early : Option Refusal
  too_early = then_some (is_early state command) RoundNotStarted

  pub user_unhindered : some_that (subject_user command) (λ name. not (has_account state.roles name)) ≡ false
  unfolding hindrance_of stranger no_cell no_board other_phase too_early
  user_unhindered =
      not_met _ NoSuchUser (first_unmet stranger (no_cell ∷ no_board ∷ other_phase ∷ too_early ∷ own_causes state
      command) unhindered)

  pub cell_unhindered : some_that (subject_cell command) (λ cell. not (is_scheduled state.public.movement cell)) ≡ false
  unfolding hindrance_of stranger no_cell no_board other_phase too_early
  cell_unhindered =
      not_met _ NoSuchCell
      (first_unmet no_cell (no_board ∷ other_phase ∷ too_early ∷ own_causes state command)
      (rest_unmet stranger (no_cell ∷ no_board ∷ other_phase ∷ too_early ∷ own_causes state command) unhindered))

  pub own_unhindered : first_cause (own_causes state command) ≡ None
  unfolding hindrance_of stranger no_cell no_board other_phase too_early
  own_unhindered =
      rest_unmet too_early (own_causes state command)
      (rest_unmet other_phase (too_early ∷ own_causes state command)
      (rest_unmet no_board (other_phase ∷ too_early ∷ own_causes state command)
      (rest_unmet no_cell (no_board ∷ other_phase ∷ too_early ∷ own_causes state command)
      (rest_unmet stranger (no_cell ∷ no_board ∷ other_phase ∷ too_early ∷ own_causes state command) unhindered))))

-- what is entered without a hindrance finds no result
pub entry_is_free : (state : SessionState) (cell : Cell) (outcome : Outcome) (play : List Card) → hindrance_of state
    (Enter cell outcome play) ≡ None →
    has_result (cell_at state cell) ≡ false
entry_is_free state cell outcome play unhindered =
    let free = has_result (cell_at state cell) in
    not_met free AlreadyLive
    (rest_none (then_some free AlreadyLive) None
    (rest_unmet (then_some (is_bad_result outcome play) BadResult) (then_some free AlreadyLive ∷ [])
    (own_unhindered state (Enter cell outcome play) unhindered))).0

-- a round that is started without a hindrance is one of the movement
pub round_is_played : (state : SessionState) → hindrance_of state NextRound ≡ None → state.public.round <
    state.public.movement.rounds
round_is_played state unhindered =
    let last = not_met (nat_le state.public.movement.rounds state.public.round) NoMoreRounds
    (rest_none (then_some (nat_le state.public.movement.rounds state.public.round) NoMoreRounds) None
    (own_unhindered state NextRound unhindered)).0 in
    elim (cases_lt state.public.round state.public.movement.rounds) [
      | inl below ↦ below
      | inr above ↦ absurd (false≢true (sym last ∙ le-leb state.public.movement.rounds state.public.round above))
    ]
