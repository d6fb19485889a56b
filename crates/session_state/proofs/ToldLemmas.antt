-- Names to show, and what a session tells of itself, change nothing else.
use Rattle.std.proofs.Common.{◌≡◌, ℕ, Bool, true, false, List, ◌∷◌, ◌++◌, refl, ap, ◌∙◌}
use Rattle.std.specs.Prelude.{Option, not, is_some, if◌then◌else◌, nat_le, []}
use Rattle.std.specs.Bool.{then_some}
use Rattle.movement.specs.declared.cell.Cell.{Cell}
use Rattle.movement.specs.Movement.{has_board}
use Rattle.movement.specs.Schedule.{is_scheduled}
use Rattle.disclosure_rules.specs.Seating.{some_that}
use Rattle.notices.specs.declared.notices.Notices.{Notices}
use Rattle.session_commands.specs.declared.actor.Actor.{Actor}
use Rattle.session_commands.specs.declared.cell_state.CellState.{CellState}
use Rattle.session_commands.specs.declared.cell_state.CellState.TheVariants.{Empty}
use Rattle.session_commands.specs.declared.command.Command.{Command}
use Rattle.session_commands.specs.declared.command.Command.TheVariants.{Confirm, NextRound}
use Rattle.session_commands.specs.declared.entry.Entry.{Entry}
use Rattle.session_commands.specs.declared.refusal.Refusal.TheVariants.{
  NotPermitted,
  NoSuchUser,
  NoSuchCell,
  NoSuchBoard,
  WrongPhase,
  RoundNotStarted,
  JournalFull,
}
use Rattle.session_commands.specs.Command.{phases_of, subject_user, subject_cell, subject_board, is_among}
use Rattle.session_commands.specs.Refusal.{spoiled}
use Rattle.session_state.specs.Accounts.{has_account}
use Rattle.session_state.specs.Apply.{apply, effect, confirmed}
use Rattle.session_state.specs.Refusal.{
  most_entries,
  first_cause,
  own_causes,
  is_early,
  hindrances,
  is_permitted,
  hindrance_of,
  refusal_of,
}
use Rattle.session_state.specs.SessionState.{SessionState, cell_at}
use Rattle.session_state.specs.Told.{told_as}

module _ (state : SessionState) (names : List (List ℕ)) (notices : Notices) where
  abbrev told : SessionState
  told = told_as state names notices

  same_own : (command : Command) → own_causes told command ≡ own_causes state command
  same_own NextRound = refl
  same_own command = refl

  same_hindrances : (command : Command) → hindrances told command ≡ hindrances state command
  same_hindrances command =
      ap (λ own. then_some (some_that (subject_user command) (λ name. not (has_account state.roles name))) NoSuchUser
      ∷ then_some (some_that (subject_cell command) (λ cell. not (is_scheduled state.public.movement cell))) NoSuchCell
      ∷ then_some (some_that (subject_board command) (λ board. not (has_board state.public.movement board))) NoSuchBoard
      ∷ then_some (not (is_among (phases_of command) state.public.phase)) WrongPhase
      ∷ then_some (is_early state command) RoundNotStarted
      ∷ own) (same_own command)

  same_hindrance : (command : Command) → hindrance_of told command ≡ hindrance_of state command
  unfolding hindrance_of
  same_hindrance command = ap first_cause (same_hindrances command)

  pub same_refusal : (spoiler : Option (List ℕ)) (actor : Actor) (command : Command) (entries : ℕ) →
      refusal_of told spoiler actor command entries ≡ refusal_of state spoiler actor command entries
  unfolding refusal_of
  same_refusal spoiler actor command entries =
      ap (λ them. first_cause (then_some (not (is_permitted state.roles actor command)) NotPermitted
      ∷ (them ++ spoiled command spoiler ∷ then_some (nat_le most_entries entries) JournalFull ∷ [])))
      (same_hindrances command)

  module _ (later : List (List ℕ)) (after : Notices) where
    abbrev otherwise : SessionState → SessionState
    otherwise other = told_as other later after

    same_confirmed : (cell : Cell) (known : CellState) →
        otherwise (confirmed told cell known) ≡ otherwise (confirmed state cell known)
    same_confirmed cell Empty = refl
    same_confirmed cell known = refl

    same_effect : (command : Command) → otherwise (effect told command) ≡ otherwise (effect state command)
    same_effect (Confirm cell outcome) = same_confirmed cell (cell_at state cell)
    same_effect command = refl

    by_hindrance : (hindered : Bool) (command : Command) →
        otherwise (if hindered then told else effect told command)
        ≡ otherwise (if hindered then state else effect state command)
    by_hindrance true command = refl
    by_hindrance false command = same_effect command

    pub same_after : (entry : Entry) → otherwise (apply told entry) ≡ otherwise (apply state entry)
    same_after entry =
        ap (λ hindrance. otherwise (if is_some hindrance then told else effect told entry.command))
        (same_hindrance entry.command)
        ∙ by_hindrance (is_some (hindrance_of state entry.command)) entry.command
