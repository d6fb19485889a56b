-- What holds where nothing hinders a command on users, roles or the role hierarchy: no cause of its own refuses the
-- change.
use Rattle.std.proofs.Common.{◌≡◌, ℕ, ◌<◌, Bool, true, false, List, [], ◌∷◌, length, inl, inr, refl, sym, ◌∙◌, arith}
use Rattle.std.specs.Prelude.{Option, Some, None, option_map, nat_le, not}
use Rattle.std.specs.Bool.{then_some}
use Rattle.std.specs.Option.{option_or}
use Rattle.std.proofs.lemmas.Bool.{both_ways, false≢true, cases_lt, le-leb}
use Rattle.session_roles.specs.declared.role.Role.{Role}
use Rattle.session_roles.specs.declared.separation_set.SeparationSet.{SeparationSet}
use Rattle.rbac.specs.declared.add_user_error.AddUserError.{AddUserError}
use Rattle.rbac.specs.declared.add_user_error.AddUserError.TheVariants as add_user_error
use Rattle.rbac.specs.declared.assign_error.AssignError.{AssignError}
use Rattle.rbac.specs.declared.assign_error.AssignError.TheVariants as assign_error
use Rattle.rbac.specs.declared.deassign_error.DeassignError.{DeassignError}
use Rattle.rbac.specs.declared.deassign_error.DeassignError.TheVariants as deassign_error
use Rattle.rbac.specs.declared.add_inheritance_error.AddInheritanceError.{AddInheritanceError}
use Rattle.rbac.specs.declared.add_inheritance_error.AddInheritanceError.TheVariants as inheritance_error
use Rattle.rbac.specs.declared.delete_inheritance_error.DeleteInheritanceError.{DeleteInheritanceError}
use Rattle.rbac.specs.declared.delete_inheritance_error.DeleteInheritanceError.TheVariants as deletion_error
use Rattle.rbac.specs.Account.{most_users, is_user_name}
use Rattle.rbac.specs.Causes.{deassignment_cause, inheritance_cause}
use Rattle.rbac.specs.Inheritance.{reaches, pair_of}
use Rattle.rbac.specs.Refusals.{
  are_roles_of,
  RefusesUser,
  RefusesAssignment,
  RefusesDeassignment,
  RefusesInheritance,
  RefusesDeletion,
}
use Rattle.rbac.specs.Review.{is_broken}
use Rattle.session_roles.specs.Role.{is_role_of}
use Rattle.rbac.specs.RoleData.{RoleData, assign_user, deassign_user, add_inheritance, delete_inheritance}
use Rattle.rbac.proofs.CauseLemmas.{decides_account, decides_assigned}
use Rattle.rbac.proofs.InheritanceLemmas.{decides_reaches}
use Rattle.rbac.proofs.RefusalLemmas.{decides_there}
use Rattle.rbac.proofs.ReviewLemmas.{decides_is_broken, either_way}
use Rattle.session_roles.proofs.SeparationLemmas.{none_found}
use Rattle.session_commands.specs.declared.command.Command.TheVariants.{
  AddUser,
  Assign,
  Deassign,
  AddInheritance,
  DeleteInheritance,
}
use Rattle.user_names.specs.declared.digest.Digest.{Digest}
use Rattle.session_commands.specs.declared.refusal.Refusal.{Refusal}
use Rattle.session_commands.specs.declared.refusal.Refusal.TheVariants.{
  BadName,
  UserExists,
  TooManyUsers,
  NoSuchRole,
  AlreadyAssigned,
  Separation,
  NotAssigned,
  Cycle,
  AlreadyThere,
  NotThere,
}
use Rattle.session_state.specs.Accounts.{has_account, is_assigned, first_broken, has_pair}
use Rattle.session_state.specs.Accounts.{deassignment_refusal, inheritance_refusal}
use Rattle.session_state.specs.Refusal.{first_cause, own_causes, hindrance_of, needed_causes}
use Rattle.session_state.specs.SessionState.{SessionState}
use Rattle.session_state.proofs.HindranceLemmas.{rest_none, first_unmet, not_met, user_unhindered, own_unhindered}
use Rattle.session_state.proofs.SeatCauseLemmas.{was_not}

two_unmet : (a b : Option Refusal) → first_cause (a ∷ b ∷ []) ≡ None → (a ≡ None) × (b ≡ None)
two_unmet a b none =
    let rest = rest_none a (first_cause (b ∷ [])) none in (rest.0, (rest_none b None rest.1).0)

three_unmet : (a b c : Option Refusal) → first_cause (a ∷ b ∷ c ∷ []) ≡ None → (a ≡ None) × ((b ≡ None) × (c ≡ None))
three_unmet a b c none =
    let rest = rest_none a (first_cause (b ∷ c ∷ [])) none in (rest.0, two_unmet b c rest.1)

four_unmet : (a b c d : Option Refusal) → first_cause (a ∷ b ∷ c ∷ d ∷ []) ≡ None →
    (a ≡ None) × ((b ≡ None) × ((c ≡ None) × (d ≡ None)))
four_unmet a b c d none =
    let rest = rest_none a (first_cause (b ∷ c ∷ d ∷ [])) none in (rest.0, three_unmet b c d rest.1)

-- no set is broken where none is named
none_named : (broken : Option SeparationSet) → option_map Separation broken ≡ None → None ≡ broken
none_named None none = refl
none_named (Some set) none = absurd cc

-- what refuses a change of roles is what its command is refused as
deassignment_told : (there known assigned : Bool) (needed : List (Option Refusal)) → there ≡ true →
    option_or (option_map deassignment_refusal (option_or (then_some (not there) deassign_error.NoSuchUser)
    (option_or (then_some (not known) deassign_error.NoSuchRole)
    (then_some (not assigned) deassign_error.NotAssigned)))) (first_cause needed)
    ≡ first_cause (then_some (not known) NoSuchRole ∷ then_some (not assigned) NotAssigned ∷ needed)
deassignment_told false known assigned needed there = absurd (false≢true there)
deassignment_told true false assigned needed there = refl
deassignment_told true true false needed there = refl
deassignment_told true true true needed there = refl

pub deassignment_cause_told : (state : SessionState) (name : List ℕ) (role : Role) →
    has_account state.roles name ≡ true →
    option_or (option_map deassignment_refusal (deassignment_cause state.roles name role))
    (first_cause (needed_causes state (deassign_user state.roles name role)))
    ≡ first_cause (own_causes state (Deassign name role))
deassignment_cause_told state name role there =
    deassignment_told (has_account state.roles name) (is_role_of state.roles.edition role)
    (is_assigned state.roles name role) (needed_causes state (deassign_user state.roles name role)) there

inheritance_told : (known up there : Bool) (broken : Option SeparationSet) →
    option_map inheritance_refusal (option_or (then_some (not known) inheritance_error.NoSuchRole)
    (option_or (then_some up inheritance_error.Cycle)
    (option_or (then_some there inheritance_error.AlreadyThere) (option_map inheritance_error.Separation broken))))
    ≡ first_cause (then_some (not known) NoSuchRole ∷ then_some up Cycle ∷ then_some there AlreadyThere
    ∷ option_map Separation broken ∷ [])
inheritance_told false up there broken = refl
inheritance_told true true there broken = refl
inheritance_told true false true broken = refl
inheritance_told true false false (Some set) = refl
inheritance_told true false false None = refl

pub inheritance_cause_told : (state : SessionState) (senior junior : Role) →
    option_map inheritance_refusal (inheritance_cause state.roles senior junior)
    ≡ first_cause (own_causes state (AddInheritance senior junior))
inheritance_cause_told state senior junior =
    inheritance_told (are_roles_of state.roles.edition senior junior) (reaches state.roles.pairs junior senior)
    (has_pair state.roles senior junior) (first_broken (add_inheritance state.roles senior junior))

-- a user is added
module _ (state : SessionState) (name : List ℕ) (digest : Digest) (unhindered : hindrance_of state (AddUser name digest)
    ≡ None) where
  add_user_parts : (then_some (not (is_user_name name)) BadName ≡ None) ×
      ((then_some (has_account state.roles name) UserExists ≡ None) ×
      (then_some (nat_le most_users (length state.roles.accounts)) TooManyUsers ≡ None))
  add_user_parts = three_unmet _ _ _ (own_unhindered state (AddUser name digest) unhindered)

  pub room_for_user : length state.roles.accounts < most_users
  room_for_user =
      elim (cases_lt (length state.roles.accounts) most_users) [
        | inl below ↦ below
        | inr full ↦ absurd
            (false≢true (sym (not_met (nat_le most_users (length state.roles.accounts)) TooManyUsers add_user_parts.1.1)
            ∙ le-leb most_users (length state.roles.accounts) full))
      ]

  pub user_is_added : (cause : AddUserError) → ¬ RefusesUser state.roles name cause
  user_is_added add_user_error.BadName bad = both_ways _ bad (was_not _ (not_met _ BadName add_user_parts.0))
  user_is_added add_user_error.UserExists there =
      both_ways _ (not_met _ UserExists add_user_parts.1.0) ((decides_account state.roles name).1 there)
  user_is_added add_user_error.TooManyUsers full = absurd (omega (arith, room_for_user, full))

-- a role is assigned
module _ (state : SessionState) (name : List ℕ) (role : Role) (unhindered : hindrance_of state (Assign name role) ≡
    None) where
  assign_parts : (then_some (not (is_role_of state.roles.edition role)) NoSuchRole ≡ None) ×
      ((then_some (is_assigned state.roles name role) AlreadyAssigned ≡ None) ×
      (option_map Separation (first_broken (assign_user state.roles name role)) ≡ None))
  assign_parts = three_unmet _ _ _ (own_unhindered state (Assign name role) unhindered)

  pub role_is_assigned : (cause : AssignError) → ¬ RefusesAssignment state.roles name role cause
  role_is_assigned assign_error.NoSuchUser none =
      none ((decides_account state.roles name).0 (was_not _ (user_unhindered state (Assign name role) unhindered)))
  role_is_assigned assign_error.NoSuchRole none = both_ways _ none (was_not _ (not_met _ NoSuchRole assign_parts.0))
  role_is_assigned assign_error.AlreadyAssigned assigned =
      both_ways _ (not_met _ AlreadyAssigned assign_parts.1.0) ((decides_assigned state.roles name role).1 assigned)
  role_is_assigned (assign_error.Separation set) broken =
      let after : RoleData = assign_user state.roles name role in
      both_ways _ (none_found (is_broken after) (none_named (first_broken after) assign_parts.1.1) set)
      ((decides_is_broken after set).1 broken)

-- an assigned role is taken away
module _ (state : SessionState) (name : List ℕ) (role : Role) (unhindered : hindrance_of state (Deassign name role) ≡
    None) where
  deassign_parts : (then_some (not (is_role_of state.roles.edition role)) NoSuchRole ≡ None) ×
      (first_cause (then_some (not (is_assigned state.roles name role)) NotAssigned
      ∷ needed_causes state (deassign_user state.roles name role)) ≡ None)
  deassign_parts = rest_none _ _ (own_unhindered state (Deassign name role) unhindered)

  pub role_is_deassigned : (cause : DeassignError) → ¬ RefusesDeassignment state.roles name role cause
  role_is_deassigned deassign_error.NoSuchUser none =
      none ((decides_account state.roles name).0 (was_not _ (user_unhindered state (Deassign name role) unhindered)))
  role_is_deassigned deassign_error.NoSuchRole none =
      both_ways _ none (was_not _ (not_met _ NoSuchRole deassign_parts.0))
  role_is_deassigned deassign_error.NotAssigned none =
      let met = first_unmet (then_some (not (is_assigned state.roles name role)) NotAssigned)
      (needed_causes state (deassign_user state.roles name role)) deassign_parts.1 in
      none ((decides_assigned state.roles name role).0 (was_not _ (not_met _ NotAssigned met)))

-- an inheritance pair is added
module _ (state : SessionState) (senior junior : Role) (unhindered : hindrance_of state (AddInheritance senior junior) ≡
    None) where
  inheritance_parts : (then_some (not (are_roles_of state.roles.edition senior junior))
      NoSuchRole ≡ None)
      × ((then_some (reaches state.roles.pairs junior senior) Cycle ≡ None)
      × ((then_some (has_pair state.roles senior junior) AlreadyThere ≡ None) ×
      (option_map Separation (first_broken (add_inheritance state.roles senior junior)) ≡ None)))
  inheritance_parts = four_unmet _ _ _ _ (own_unhindered state (AddInheritance senior junior) unhindered)

  pub pair_is_added : (cause : AddInheritanceError) → ¬ RefusesInheritance state.roles senior junior cause
  pair_is_added inheritance_error.NoSuchRole none =
      both_ways _ none (was_not _ (not_met _ NoSuchRole inheritance_parts.0))
  pair_is_added inheritance_error.Cycle chain =
      both_ways _ (not_met _ Cycle inheritance_parts.1.0) ((decides_reaches state.roles.pairs junior senior).1 chain)
  pair_is_added inheritance_error.AlreadyThere there =
      both_ways _ (not_met _ AlreadyThere inheritance_parts.1.1.0)
      (sym (either_way state.roles.pairs (pair_of senior junior))
      ∙ (decides_there state.roles.pairs (pair_of senior junior)).1 there)
  pair_is_added (inheritance_error.Separation set) broken =
      let after : RoleData = add_inheritance state.roles senior junior in
      both_ways _ (none_found (is_broken after) (none_named (first_broken after) inheritance_parts.1.1.1) set)
      ((decides_is_broken after set).1 broken)

-- an inheritance pair is deleted
module _ (state : SessionState) (senior junior : Role)
    (unhindered : hindrance_of state (DeleteInheritance senior junior) ≡ None) where
  deletion_parts : (then_some (not (are_roles_of state.roles.edition senior junior))
      NoSuchRole ≡ None)
      × (first_cause (then_some (not (has_pair state.roles senior junior)) NotThere
      ∷ needed_causes state (delete_inheritance state.roles senior junior)) ≡ None)
  deletion_parts = rest_none _ _ (own_unhindered state (DeleteInheritance senior junior) unhindered)

  pub pair_is_deleted : (cause : DeleteInheritanceError) → ¬ RefusesDeletion state.roles senior junior cause
  pair_is_deleted deletion_error.NoSuchRole none =
      both_ways _ none (was_not _ (not_met _ NoSuchRole deletion_parts.0))
  pair_is_deleted deletion_error.NotThere none =
      let met = first_unmet (then_some (not (has_pair state.roles senior junior)) NotThere)
      (needed_causes state (delete_inheritance state.roles senior junior)) deletion_parts.1 in
      none ((decides_there state.roles.pairs (pair_of senior junior)).0
      (either_way state.roles.pairs (pair_of senior junior) ∙ was_not _ (not_met _ NotThere met)))
