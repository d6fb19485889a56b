-- What the solver tells is refused neither as not permitted nor for a user without an account, whoever gives it.
use Rattle.std.proofs.Common.{◌≡◌, ℕ, Bool, true, false, List, [], ◌∷◌, ◌++◌, refl, sym, ap, ◌∙◌}
use Rattle.std.specs.Prelude.{Option, Some, None, is_none, option_map, not, if◌then◌else◌}
use Rattle.std.specs.Bool.{then_some}
use Rattle.std.specs.Option.{option_map_or}
use Rattle.std.proofs.lemmas.Bool.{false≢true}
use Rattle.rbac.specs.Authorization.{has_permission}
use Rattle.rbac.specs.RoleData.{RoleData}
use Rattle.session_roles.specs.declared.operation.Operation.{Operation}
use Rattle.session_commands.specs.declared.actor.Actor.{Actor}
use Rattle.session_commands.specs.declared.actor.Actor.TheVariants.{User, Solver}
use Rattle.session_commands.specs.declared.command.Command.{Command}
use Rattle.session_commands.specs.declared.command.Command.TheVariants.{Solved, Analysed}
use Rattle.session_commands.specs.declared.refusal.Refusal.{Refusal}
use Rattle.session_commands.specs.declared.refusal.Refusal.TheVariants.{
  NotPermitted,
  NoSuchUser,
  NoSuchCell,
  NoSuchBoard,
  WrongPhase,
  RoundNotStarted,
  Spoiled,
  NotLive,
  StrangeDeal,
  StrangePlay,
  AlreadySolved,
  JournalFull,
}
use Rattle.session_commands.specs.Command.{operation_of, is_solvers, is_told_by_table, subject_user}
use Rattle.disclosure_rules.specs.Seating.{some_that}
use Rattle.session_state.specs.Accounts.{has_account}
use Rattle.session_state.specs.Refusal.{is_permitted, first_cause, own_causes, hindrances, causes, refusal_of}
use Rattle.session_state.specs.SessionState.{SessionState}
use Rattle.session_state.proofs.RefusalLemmas.{last_causes, permitted_else}

-- whoever gives a command that needs no permission, may
solvers_permitted : (roles : RoleData) (actor : Actor) (command : Command) → is_solvers command ≡ true →
    is_permitted roles actor command ≡ true
solvers_permitted roles Solver command solvers = solvers
solvers_permitted roles (User name) command solvers = by_operation (operation_of command) solvers
  where
    by_operation : (operation : Option Operation) → is_none operation ≡ true → option_map_or (has_permission roles name)
        operation true ≡ true
    by_operation None none = refl
    by_operation (Some operation) never = absurd (false≢true never)

pub numbers_permitted : (state : SessionState) (spoiler : Option (List ℕ)) (actor : Actor) (command : Command)
    (entries : ℕ) → is_solvers command ≡ true →
    ¬ (refusal_of state spoiler actor command entries ≡ Some NotPermitted)
numbers_permitted state spoiler actor command entries solvers =
    permitted_else state spoiler actor command entries (solvers_permitted state.roles actor command solvers)

abbrev is_stranger : Refusal → Bool
is_stranger NoSuchUser = true
is_stranger _ = false

-- no cause that is met is that a user has no account
abbrev NoneStrange : List (Option Refusal) → Type 0
NoneStrange [] = Unit {0}
NoneStrange (cause ∷ causes) = ((met : Refusal) → cause ≡ Some met → is_stranger met ≡ false) × NoneStrange causes

first_not_strange : (causes : List (Option Refusal)) (cause : Refusal) → NoneStrange causes → first_cause causes ≡ Some
    cause → is_stranger cause ≡ false
first_not_strange [] cause none found = absurd cc
first_not_strange (None ∷ causes) cause none found = first_not_strange causes cause none.1 found
first_not_strange (Some first ∷ causes) cause none found = none.0 cause found

NoneStrange-append : (xs ys : List (Option Refusal)) → NoneStrange xs → NoneStrange ys → NoneStrange (xs ++ ys)
NoneStrange-append [] ys none_xs none_ys = none_ys
NoneStrange-append (x ∷ xs) ys none_xs none_ys = (none_xs.0, NoneStrange-append xs ys none_xs.1 none_ys)

-- another cause that is met or not
other : (is_met : Bool) (cause : Refusal) → is_stranger cause ≡ false → (met : Refusal) → then_some is_met cause ≡ Some
    met → is_stranger met ≡ false
other true cause not_strange met same = let is : cause ≡ met = cc in sym (ap is_stranger is) ∙ not_strange
other false cause not_strange met same = absurd cc

no_user : (user : Option (List ℕ)) (test : List ℕ → Bool) → user ≡ None → (met : Refusal) →
    then_some (some_that user test) NoSuchUser ≡ Some met → is_stranger met ≡ false
no_user None test none met same = absurd cc
no_user (Some name) test none met same = absurd cc

by_spoiler : (is_told : Bool) (spoiler : Option (List ℕ)) (met : Refusal) →
    (if is_told then option_map Spoiled spoiler else None) ≡ Some met → is_stranger met ≡ false
by_spoiler true (Some name) met same = let is : Spoiled name ≡ met = cc in sym (ap is_stranger is)
by_spoiler true None met same = absurd cc
by_spoiler false spoiler met same = absurd cc

-- the solver's commands are about no user, and none of their own causes is about one
solvers_not_strange : (state : SessionState) (command : Command) → is_solvers command ≡ true →
    (subject_user command ≡ None) × NoneStrange (own_causes state command)
solvers_not_strange state (Solved board table) solvers =
    (refl, (other _ StrangeDeal refl, (other _ AlreadySolved refl, tt)))
solvers_not_strange state (Analysed cell costs) solvers =
    (refl, (other _ NotLive refl, (other _ StrangePlay refl, (other _ AlreadySolved refl, tt))))
solvers_not_strange state command never = absurd (false≢true never)

pub numbers_name_nobody : (state : SessionState) (spoiler : Option (List ℕ)) (actor : Actor) (command : Command)
    (entries : ℕ) → is_solvers command ≡ true →
    ¬ (refusal_of state spoiler actor command entries ≡ Some NoSuchUser)
unfolding refusal_of
numbers_name_nobody state spoiler actor command entries solvers found =
    let own = solvers_not_strange state command solvers in
    let later : NoneStrange (hindrances state command ++ last_causes spoiler command entries) =
    NoneStrange-append (hindrances state command) (last_causes spoiler command entries) (
      no_user (subject_user command) (λ name. not (has_account state.roles name)) own.0,
      (
        other _ NoSuchCell refl,
        (other _ NoSuchBoard refl, (other _ WrongPhase refl, (other _ RoundNotStarted refl, own.1))),
      ),
    )
    (by_spoiler (is_told_by_table command) spoiler, (other _ JournalFull refl, tt)) in
    let apart = first_not_strange (causes state spoiler actor command entries) NoSuchUser
    (other (not (is_permitted state.roles actor command)) NotPermitted refl, later) found in
    false≢true (sym apart)
