-- The first cause that refuses a command.
use Rattle.std.proofs.Common.{◌≡◌, ℕ, ◌<◌, Bool, true, false, List, [], ◌∷◌, ◌++◌, refl, sym, ap, ◌∙◌, inl, inr}
use Rattle.std.specs.Prelude.{
  Option,
  Some,
  None,
  IfSome,
  is_none,
  is_some,
  option_map,
  nat_le,
  not,
  ◌||◌,
  ◌↔◌,
  if◌then◌else◌,
}
use Rattle.std.specs.Bool.{then_some}
use Rattle.std.specs.Option.{option_map_or, option_or}
use Rattle.std.proofs.lemmas.Bool.{cases_lt, le-leb, false≢true, false_from_ne_true}
use Rattle.rbac.specs.Authorization.{HasPermission, IsValid, has_permission}
use Rattle.rbac.specs.RoleData.{RoleData}
use Rattle.session_roles.specs.declared.separation_set.SeparationSet.{SeparationSet}
use Rattle.rbac.proofs.LawLemmas.{permission_exact}
use Rattle.session_commands.specs.declared.command.Command.{Command}
use Rattle.session_commands.specs.declared.command.Command.TheVariants.{Rename}
use Rattle.session_commands.specs.declared.refusal.Refusal.{Refusal}
use Rattle.session_commands.specs.declared.refusal.Refusal.TheVariants.{
  NotPermitted,
  NoSuchUser,
  NoSuchCell,
  NoSuchBoard,
  WrongPhase,
  RoundNotStarted,
  Spoiled,
  Separation,
  JournalFull,
}
use Rattle.session_commands.specs.Command.{operation_of, is_told_by_table}
use Rattle.session_commands.specs.declared.actor.Actor.{Actor}
use Rattle.session_commands.specs.declared.actor.Actor.TheVariants.{User, Solver}
use Rattle.session_roles.specs.declared.operation.Operation.{Operation}
use Rattle.session_commands.specs.Refusal.{spoiled, is_out_of_memory}
use Rattle.session_state.specs.Refusal.{
  is_permitted,
  MayGive,
  first_cause,
  own_causes,
  hindrances,
  causes,
  hindrance_of,
  refusal_of,
  most_entries,
}
use Rattle.session_state.specs.SessionState.{SessionState}

or_false : (a b : Bool) → (a || b) ≡ false → (a ≡ false) × (b ≡ false)
or_false true b none = absurd (false≢true (sym none))
or_false false b none = (refl, none)

-- the first of two lists is the first of the one or, where that has none, of the other
first_cause-append : (xs ys : List (Option Refusal)) → first_cause (xs ++ ys) ≡ option_or (first_cause xs)
    (first_cause ys)
first_cause-append [] ys = refl
first_cause-append (None ∷ xs) ys = first_cause-append xs ys
first_cause-append (Some cause ∷ xs) ys = refl

-- what stands after the hindrances: the spoiler, then the full journal
abbrev pub last_causes : Option (List ℕ) → Command → ℕ → List (Option Refusal)
last_causes spoiler command entries = spoiled command spoiler ∷ then_some (nat_le most_entries entries) JournalFull ∷ []

module _ (state : SessionState) (spoiler : Option (List ℕ)) (actor : Actor) (command : Command) (entries : ℕ) where
  -- who hasn't the permission is refused
  pub refused_actor : is_permitted state.roles actor command ≡ false → refusal_of state spoiler actor command entries ≡
      Some NotPermitted
  unfolding refusal_of
  refused_actor denied =
      ap (λ b. option_or (then_some (not b) NotPermitted)
      (first_cause (hindrances state command ++ last_causes spoiler command entries))) denied

  -- who has it is refused what the state hinders, or what is spoiled, or where the journal is full
  pub refused_else : is_permitted state.roles actor command ≡ true →
      refusal_of state spoiler actor command entries ≡ option_or (hindrance_of state command)
      (first_cause (last_causes spoiler command entries))
  unfolding refusal_of hindrance_of
  refused_else allowed =
      ap (λ b. option_or (then_some (not b) NotPermitted)
      (first_cause (hindrances state command ++ last_causes spoiler command entries))) allowed
      ∙ first_cause-append (hindrances state command) (last_causes spoiler command entries)

  pub refused_hindrance : (found : Option Refusal) → is_permitted state.roles actor command ≡ true →
      found ≡ hindrance_of state command → is_some found ≡ true → refusal_of state spoiler actor command entries ≡ found
  refused_hindrance None allowed hindered some = absurd (false≢true some)
  refused_hindrance (Some cause) allowed hindered some =
      refused_else allowed ∙ ap (λ found. option_or found (first_cause (last_causes spoiler command entries)))
      (sym hindered)

  pub refused_last : (found : Option Refusal) → is_permitted state.roles actor command ≡ true →
      found ≡ hindrance_of state command → is_some found ≡ false → refusal_of state spoiler actor command entries ≡
      first_cause (last_causes spoiler command entries)
  refused_last (Some cause) allowed hindered none = absurd (false≢true (sym none))
  refused_last None allowed hindered none =
      refused_else allowed ∙ ap (λ found. option_or found (first_cause (last_causes spoiler command entries)))
      (sym hindered)

-- what nothing refuses is not spoiled, and finds a journal that is not full
last_free : (found spoilt : Option Refusal) (full : Bool) → option_or found
    (first_cause (spoilt ∷ then_some full JournalFull ∷ [])) ≡ None → (spoilt ≡ None) × (full ≡ false)
last_free (Some cause) spoilt full none = absurd cc
last_free None (Some cause) full none = absurd cc
last_free None None true none = absurd cc
last_free None None false none = (refl, refl)

pub free_at_last : (state : SessionState) (spoiler : Option (List ℕ)) (actor : Actor) (command : Command)
    (entries : ℕ) → refusal_of state spoiler actor command entries ≡ None →
    (spoiled command spoiler ≡ None) × (nat_le most_entries entries ≡ false)
free_at_last state spoiler actor command entries none = by_permission (is_permitted state.roles actor command) refl
  where
    by_permission : (b : Bool) → is_permitted state.roles actor command ≡ b → (spoiled command spoiler ≡ None) ×
        (nat_le most_entries entries ≡ false)
    by_permission true allowed =
        last_free (hindrance_of state command) (spoiled command spoiler) (nat_le most_entries entries)
        (sym (refused_else state spoiler actor command entries allowed) ∙ none)
    by_permission false denied =
        let refused : Some NotPermitted ≡ None = sym (refused_actor state spoiler actor command entries denied)
        ∙ none in
        absurd cc

pub room_left : (state : SessionState) (spoiler : Option (List ℕ)) (actor : Actor) (command : Command) (entries : ℕ) →
    refusal_of state spoiler actor command entries ≡ None → entries < most_entries
room_left state spoiler actor command entries none =
    elim (cases_lt entries most_entries) [
      | inl below ↦ below
      | inr above ↦ absurd (false≢true (sym (free_at_last state spoiler actor command entries none).1
          ∙ le-leb most_entries entries above))
    ]

abbrev is_not_permitted : Refusal → Bool
is_not_permitted NotPermitted = true
is_not_permitted _ = false

-- whether the refusal is for memory or for the permission, which no command and no state are
abbrev is_apart : Refusal → Bool
is_apart refusal = is_out_of_memory refusal || is_not_permitted refusal

-- no cause that is met is one of these
abbrev NoneApart : List (Option Refusal) → Type 0
NoneApart [] = Unit {0}
NoneApart (cause ∷ causes) = ((met : Refusal) → cause ≡ Some met → is_apart met ≡ false) × NoneApart causes

first_not_apart : (causes : List (Option Refusal)) (cause : Refusal) → NoneApart causes → first_cause causes ≡ Some
    cause → is_apart cause ≡ false
first_not_apart [] cause none found = absurd cc
first_not_apart (None ∷ causes) cause none found = first_not_apart causes cause none.1 found
first_not_apart (Some first ∷ causes) cause none found = none.0 cause found

NoneApart-append : (xs ys : List (Option Refusal)) → NoneApart xs → NoneApart ys → NoneApart (xs ++ ys)
NoneApart-append [] ys none_xs none_ys = none_ys
NoneApart-append (x ∷ xs) ys none_xs none_ys = (none_xs.0, NoneApart-append xs ys none_xs.1 none_ys)

-- a cause that is met or not
of : (is_met : Bool) (cause : Refusal) → is_apart cause ≡ false → (met : Refusal) → then_some is_met cause ≡ Some met →
    is_apart met ≡ false
of true cause other met same = let is : cause ≡ met = cc in sym (ap is_apart is) ∙ other
of false cause other met same = absurd cc

of_set : (broken : Option SeparationSet) (met : Refusal) → option_map Separation broken ≡ Some met →
    is_apart met ≡ false
of_set (Some set) met same = let is : Separation set ≡ met = cc in sym (ap is_apart is)
of_set None met same = absurd cc

of_spoiler : (is_told : Bool) (spoiler : Option (List ℕ)) (met : Refusal) →
    (if is_told then option_map Spoiled spoiler else None) ≡ Some met → is_apart met ≡ false
of_spoiler true (Some name) met same = let is : Spoiled name ≡ met = cc in sym (ap is_apart is)
of_spoiler true None met same = absurd cc
of_spoiler false spoiler met same = absurd cc

-- none of a command's own causes
own_not_apart : (state : SessionState) (command : Command) → NoneApart (own_causes state command)
own_not_apart state (Rename name shown) = tt
own_not_apart state command = search (of, of_set)

-- nor of the others
later_not_apart : (state : SessionState) (spoiler : Option (List ℕ)) (command : Command) (entries : ℕ) →
    NoneApart (hindrances state command ++ last_causes spoiler command entries)
later_not_apart state spoiler command entries =
    NoneApart-append (hindrances state command) (last_causes spoiler command entries) (
      of _ NoSuchUser refl,
      (
        of _ NoSuchCell refl,
        (of _ NoSuchBoard refl, (of _ WrongPhase refl, (of _ RoundNotStarted refl, own_not_apart state command))),
      ),
    )
    (of_spoiler (is_told_by_table command) spoiler, (of _ JournalFull refl, tt))

-- no state refuses a command for want of memory
pub never_memory : (state : SessionState) (spoiler : Option (List ℕ)) (actor : Actor) (command : Command) (entries : ℕ)
    (cause : Refusal) → refusal_of state spoiler actor command entries ≡ Some cause → is_out_of_memory cause ≡ false
unfolding refusal_of
never_memory state spoiler actor command entries cause found = by_permission (is_permitted state.roles actor command)
    refl
  where
    by_permission : (b : Bool) → is_permitted state.roles actor command ≡ b → is_out_of_memory cause ≡ false
    by_permission true allowed =
        let later = hindrances state command ++ last_causes spoiler command entries in
        let apart = first_not_apart later cause (later_not_apart state spoiler command entries)
        (sym (ap (λ b. option_or (then_some (not b) NotPermitted) (first_cause later)) allowed) ∙ found) in
        (or_false (is_out_of_memory cause) (is_not_permitted cause) apart).0
    by_permission false denied =
        let is : Some NotPermitted ≡ Some cause = sym (refused_actor state spoiler actor command entries denied)
        ∙ found in
        let same : NotPermitted ≡ cause = cc in
        sym (ap is_out_of_memory same)

-- who has the permission is refused for another cause, if at all
pub permitted_else : (state : SessionState) (spoiler : Option (List ℕ)) (actor : Actor) (command : Command)
    (entries : ℕ) → is_permitted state.roles actor command ≡ true →
    ¬ (refusal_of state spoiler actor command entries ≡ Some NotPermitted)
unfolding refusal_of
permitted_else state spoiler actor command entries allowed refused =
    let later = hindrances state command ++ last_causes spoiler command entries in
    let found = sym (ap (λ b. option_or (then_some (not b) NotPermitted) (first_cause later)) allowed) ∙ refused in
    false≢true (sym (first_not_apart later NotPermitted (later_not_apart state spoiler command entries) found))

-- the test says whether it is permitted
permitted_exact : (roles : RoleData) (actor : Actor) (command : Command) → IsValid roles →
    (is_permitted roles actor command ≡ true) ↔ MayGive roles actor command
permitted_exact roles (User name) command valid = by_operation (operation_of command)
  where
    by_operation : (operation : Option Operation) → (option_map_or (has_permission roles name) operation true ≡ true) ↔
        IfSome operation (HasPermission roles name)
    by_operation None = ((λ _. tt), (λ _. refl))
    by_operation (Some operation) = permission_exact roles name operation valid
permitted_exact roles Solver command valid = by_operation (operation_of command)
  where
    by_operation : (operation : Option Operation) → (is_none operation ≡ true) ↔ (operation ≡ None)
    by_operation None = ((λ _. refl), (λ _. refl))
    by_operation (Some operation) = ((λ never. absurd (false≢true never)), (λ never. absurd cc))

-- it is refused as not permitted just where it isn't
pub refused_permission : (state : SessionState) (spoiler : Option (List ℕ)) (actor : Actor) (command : Command)
    (entries : ℕ) → IsValid state.roles →
    (refusal_of state spoiler actor command entries ≡ Some NotPermitted) ↔ (¬ MayGive state.roles actor command)
refused_permission state spoiler actor command entries valid =
    let exact = permitted_exact state.roles actor command valid in (
      λ refused is. permitted_else state spoiler actor command entries (exact.1 is) refused,
      λ missing. refused_actor state spoiler actor command entries
          (false_from_ne_true _ (λ test. missing (exact.0 test))),
    )
