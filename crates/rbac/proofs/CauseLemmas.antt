-- The cause that is worked out by tests is the first that holds, and there is none where none holds.
use Rattle.std.proofs.Common.{◌≡◌, ℕ, ◌+◌, ◌<◌, Bool, true, false, List, length, Option, Some, None, refl, sym, subst, ◌∙◌, arith}
use Rattle.std.specs.Prelude.{not, nat_le, option_map, Contains}
use Rattle.std.specs.Bool.{Decides, then_some}
use Rattle.std.specs.Option.{option_or}
use Rattle.std.proofs.lemmas.Bool.{both_ways, false≢true, le-leb, leb-true}
use Rattle.std.proofs.lemmas.Bool.Decides.{Decides-and, Decides-at}
use Rattle.session_roles.specs.declared.role.Role.{Role}
use Rattle.session_roles.specs.declared.separation_set.SeparationSet.{SeparationSet}
use Rattle.session_roles.specs.Role.{has, is_role_of}
use Rattle.session_roles.specs.Separation.{set_number}
use Rattle.session_roles.proofs.SeparationLemmas.{first_found, none_found}
use Rattle.small_sets.specs.First.{IsFirst}
use Rattle.rbac.specs.declared.add_user_error.AddUserError.{AddUserError}
use Rattle.rbac.specs.declared.add_user_error.AddUserError.TheVariants.{BadName, UserExists, TooManyUsers}
use Rattle.rbac.specs.declared.assign_error.AssignError.{AssignError}
use Rattle.rbac.specs.declared.assign_error.AssignError.TheVariants.{NoSuchUser, NoSuchRole, AlreadyAssigned, Separation}
use Rattle.rbac.specs.declared.deassign_error.DeassignError.{DeassignError}
use Rattle.rbac.specs.declared.deassign_error.DeassignError.TheVariants as deassign
use Rattle.rbac.specs.declared.add_inheritance_error.AddInheritanceError.{AddInheritanceError}
use Rattle.rbac.specs.declared.add_inheritance_error.AddInheritanceError.TheVariants as inheritance
use Rattle.rbac.specs.declared.delete_inheritance_error.DeleteInheritanceError.{DeleteInheritanceError}
use Rattle.rbac.specs.declared.delete_inheritance_error.DeleteInheritanceError.TheVariants as deletion
use Rattle.rbac.specs.Account.{most_users, is_user_name, HasAccount, IsAssigned, same_name}
use Rattle.rbac.specs.Causes.{user_cause, assignment_cause, deassignment_cause, inheritance_cause, deletion_cause}
use Rattle.rbac.specs.Inheritance.{Reaches, reaches, pair_of}
use Rattle.rbac.specs.Refusals.{
  add_user_place,
  RefusesUser,
  assign_place,
  RefusesAssignment,
  deassign_place,
  RefusesDeassignment,
  inheritance_place,
  are_roles_of,
  RefusesInheritance,
  deletion_place,
  RefusesDeletion,
}
use Rattle.rbac.specs.Review.{has_account, is_assigned, is_broken, first_broken, has_pair}
use Rattle.rbac.specs.RoleData.{RoleData, assign_user, add_inheritance}
use Rattle.rbac.proofs.AccountLemmas.{same_name_decides}
use Rattle.rbac.proofs.InheritanceLemmas.{decides_reaches}
use Rattle.rbac.proofs.ListLemmas.{decides_any}
use Rattle.rbac.proofs.RefusalLemmas.{decides_there}
use Rattle.rbac.proofs.ReviewLemmas.{decides_is_broken, either_way}

-- what is answered is the first cause that holds, or nothing where none does
IsAnswer : {Cause : Type 0} → (Cause → ℕ) → (Cause → Type 0) → Option Cause → Type 0
IsAnswer place Holds None = (cause : _) → ¬ Holds cause
IsAnswer place Holds (Some cause) = IsFirst place Holds cause

pub decides_account : (roles : RoleData) (name : List ℕ) → Decides (has_account roles name)
    (HasAccount roles.accounts name)
decides_account roles name =
    decides_any (λ account. same_name account.name name) (λ account. account.name ≡ name)
    (λ account. same_name_decides account.name name) roles.accounts

pub decides_assigned : (roles : RoleData) (name : List ℕ) (role : Role) → Decides (is_assigned roles name role)
    (IsAssigned roles.accounts name role)
decides_assigned roles name role =
    decides_any _ (λ account. (account.name ≡ name) × (has account.assigned role ≡ true))
    (λ account. Decides-and _ _ (same_name_decides account.name name) (λ same. same, λ same. same)) roles.accounts

pub decides_pair : (roles : RoleData) (senior junior : Role) → Decides (has_pair roles senior junior)
    (Contains roles.pairs (pair_of senior junior))
decides_pair roles senior junior =
    Decides-at _ _ (sym (either_way roles.pairs (pair_of senior junior)))
    (decides_there roles.pairs (pair_of senior junior))

-- a user is added
module _ (state : RoleData) (name : List ℕ) where
  user_answer : (fits there full : Bool) → is_user_name name ≡ fits → Decides there (HasAccount state.accounts name) →
      nat_le most_users (length state.accounts) ≡ full →
      IsAnswer add_user_place (RefusesUser state name)
      (option_or (then_some (not fits) BadName) (option_or (then_some there UserExists) (then_some full TooManyUsers)))
  unfolding IsAnswer
  user_answer false there full f t u = record {
    holds = f;
    least = λ other. elim other as (λ other. add_user_place other < 0 → ¬ RefusesUser state name other) [
      | BadName ↦ λ before. absurd (omega arith)
      | UserExists ↦ λ before. absurd (omega arith)
      | TooManyUsers ↦ λ before. absurd (omega arith)
    ];
  }
  user_answer true true full f t u = record {
    holds = t.0 refl;
    least = λ other. elim other as (λ other. add_user_place other < 1 → ¬ RefusesUser state name other) [
      | BadName ↦ λ before bad. both_ways _ bad f
      | UserExists ↦ λ before. absurd (omega arith)
      | TooManyUsers ↦ λ before. absurd (omega arith)
    ];
  }
  user_answer true false true f t u = record {
    holds = leb-true most_users (length state.accounts) u;
    least = λ other. elim other as (λ other. add_user_place other < 2 → ¬ RefusesUser state name other) [
      | BadName ↦ λ before bad. both_ways _ bad f
      | UserExists ↦ λ before is. false≢true (t.1 is)
      | TooManyUsers ↦ λ before. absurd (omega arith)
    ];
  }
  user_answer true false false f t u = λ cause. elim cause as (λ cause. ¬ RefusesUser state name cause) [
    | BadName ↦ λ bad. both_ways _ bad f
    | UserExists ↦ λ is. false≢true (t.1 is)
    | TooManyUsers ↦ λ many. false≢true (sym u ∙ le-leb most_users (length state.accounts) many)
  ]

  user_answered : IsAnswer add_user_place (RefusesUser state name) (user_cause state name)
  user_answered = user_answer _ _ _ refl (decides_account state name) refl

  pub user_refused : (cause : AddUserError) → Some cause ≡ user_cause state name →
      IsFirst add_user_place (RefusesUser state name) cause
  unfolding IsAnswer
  user_refused cause is = subst (IsAnswer add_user_place (RefusesUser state name)) (sym is) user_answered

  pub user_unrefused : None ≡ user_cause state name → (cause : AddUserError) → ¬ RefusesUser state name cause
  unfolding IsAnswer
  user_unrefused is = subst (IsAnswer add_user_place (RefusesUser state name)) (sym is) user_answered

-- a role is assigned
module _ (state : RoleData) (name : List ℕ) (role : Role) where
  assignment_answer : (there known assigned : Bool) (broken : Option SeparationSet) →
      Decides there (HasAccount state.accounts name) → is_role_of state.edition role ≡ known →
      Decides assigned (IsAssigned state.accounts name role) → broken ≡ first_broken (assign_user state name role) →
      IsAnswer assign_place (RefusesAssignment state name role)
      (option_or (then_some (not there) NoSuchUser) (option_or (then_some (not known) NoSuchRole)
      (option_or (then_some assigned AlreadyAssigned) (option_map Separation broken))))
  unfolding IsAnswer
  assignment_answer false known assigned broken t k a b = record {
    holds = λ is. false≢true (t.1 is);
    least = λ other. elim other as (λ other. assign_place other < 0 → ¬ RefusesAssignment state name role other) [
      | NoSuchUser ↦ λ before. absurd (omega arith)
      | NoSuchRole ↦ λ before. absurd (omega arith)
      | AlreadyAssigned ↦ λ before. absurd (omega arith)
      | Separation set ↦ λ before. absurd (omega arith)
    ];
  }
  assignment_answer true false assigned broken t k a b = record {
    holds = k;
    least = λ other. elim other as (λ other. assign_place other < 1 → ¬ RefusesAssignment state name role other) [
      | NoSuchUser ↦ λ before none. none (t.0 refl)
      | NoSuchRole ↦ λ before. absurd (omega arith)
      | AlreadyAssigned ↦ λ before. absurd (omega arith)
      | Separation set ↦ λ before. absurd (omega arith)
    ];
  }
  assignment_answer true true true broken t k a b = record {
    holds = a.0 refl;
    least = λ other. elim other as (λ other. assign_place other < 2 → ¬ RefusesAssignment state name role other) [
      | NoSuchUser ↦ λ before none. none (t.0 refl)
      | NoSuchRole ↦ λ before unknown. both_ways _ unknown k
      | AlreadyAssigned ↦ λ before. absurd (omega arith)
      | Separation set ↦ λ before. absurd (omega arith)
    ];
  }
  assignment_answer true true false (Some set) t k a b =
      let after : RoleData = assign_user state name role in
      let first = first_found (is_broken after) set b in
      record {
        holds = (decides_is_broken after set).0 first.passes;
        least = λ other. elim other as (λ other. assign_place other < 3 + set_number set →
            ¬ RefusesAssignment state name role other) [
              | NoSuchUser ↦ λ before none. none (t.0 refl)
              | NoSuchRole ↦ λ before unknown. both_ways _ unknown k
              | AlreadyAssigned ↦ λ before is. false≢true (a.1 is)
              | Separation other ↦ λ before broken. both_ways _ (first.before other (omega arith))
                  ((decides_is_broken after other).1 broken)
            ];
      }
  assignment_answer true true false None t k a b =
      let after : RoleData = assign_user state name role in
      λ cause. elim cause as (λ cause. ¬ RefusesAssignment state name role cause) [
        | NoSuchUser ↦ λ none. none (t.0 refl)
        | NoSuchRole ↦ λ unknown. both_ways _ unknown k
        | AlreadyAssigned ↦ λ is. false≢true (a.1 is)
        | Separation set ↦ λ broken. both_ways _ (none_found (is_broken after) b set)
            ((decides_is_broken after set).1 broken)
      ]

  assignment_answered : IsAnswer assign_place (RefusesAssignment state name role) (assignment_cause state name role)
  assignment_answered = assignment_answer _ _ _ _ (decides_account state name) refl (decides_assigned state name role)
      refl

  pub assignment_refused : (cause : AssignError) → Some cause ≡ assignment_cause state name role →
      IsFirst assign_place (RefusesAssignment state name role) cause
  unfolding IsAnswer
  assignment_refused cause is =
      subst (IsAnswer assign_place (RefusesAssignment state name role)) (sym is) assignment_answered

  pub assignment_unrefused : None ≡ assignment_cause state name role → (cause : AssignError) →
      ¬ RefusesAssignment state name role cause
  unfolding IsAnswer
  assignment_unrefused is =
      subst (IsAnswer assign_place (RefusesAssignment state name role)) (sym is) assignment_answered

-- an assigned role is taken away
module _ (state : RoleData) (name : List ℕ) (role : Role) where
  deassignment_answer : (there known assigned : Bool) → Decides there (HasAccount state.accounts name) →
      is_role_of state.edition role ≡ known → Decides assigned (IsAssigned state.accounts name role) →
      IsAnswer deassign_place (RefusesDeassignment state name role)
      (option_or (then_some (not there) deassign.NoSuchUser) (option_or (then_some (not known) deassign.NoSuchRole)
      (then_some (not assigned) deassign.NotAssigned)))
  unfolding IsAnswer
  deassignment_answer false known assigned t k a = record {
    holds = λ is. false≢true (t.1 is);
    least = λ other. elim other as (λ other. deassign_place other < 0 → ¬ RefusesDeassignment state name role other) [
      | deassign.NoSuchUser ↦ λ before. absurd (omega arith)
      | deassign.NoSuchRole ↦ λ before. absurd (omega arith)
      | deassign.NotAssigned ↦ λ before. absurd (omega arith)
    ];
  }
  deassignment_answer true false assigned t k a = record {
    holds = k;
    least = λ other. elim other as (λ other. deassign_place other < 1 → ¬ RefusesDeassignment state name role other) [
      | deassign.NoSuchUser ↦ λ before none. none (t.0 refl)
      | deassign.NoSuchRole ↦ λ before. absurd (omega arith)
      | deassign.NotAssigned ↦ λ before. absurd (omega arith)
    ];
  }
  deassignment_answer true true false t k a = record {
    holds = λ is. false≢true (a.1 is);
    least = λ other. elim other as (λ other. deassign_place other < 2 → ¬ RefusesDeassignment state name role other) [
      | deassign.NoSuchUser ↦ λ before none. none (t.0 refl)
      | deassign.NoSuchRole ↦ λ before unknown. both_ways _ unknown k
      | deassign.NotAssigned ↦ λ before. absurd (omega arith)
    ];
  }
  deassignment_answer true true true t k a =
      λ cause. elim cause as (λ cause. ¬ RefusesDeassignment state name role cause) [
        | deassign.NoSuchUser ↦ λ none. none (t.0 refl)
        | deassign.NoSuchRole ↦ λ unknown. both_ways _ unknown k
        | deassign.NotAssigned ↦ λ none. none (a.0 refl)
      ]

  deassignment_answered : IsAnswer deassign_place (RefusesDeassignment state name role)
      (deassignment_cause state name role)
  deassignment_answered = deassignment_answer _ _ _ (decides_account state name) refl (decides_assigned state name role)

  pub deassignment_refused : (cause : DeassignError) → Some cause ≡ deassignment_cause state name role →
      IsFirst deassign_place (RefusesDeassignment state name role) cause
  unfolding IsAnswer
  deassignment_refused cause is =
      subst (IsAnswer deassign_place (RefusesDeassignment state name role)) (sym is) deassignment_answered

  pub deassignment_unrefused : None ≡ deassignment_cause state name role → (cause : DeassignError) →
      ¬ RefusesDeassignment state name role cause
  unfolding IsAnswer
  deassignment_unrefused is =
      subst (IsAnswer deassign_place (RefusesDeassignment state name role)) (sym is) deassignment_answered

-- an inheritance pair is added
module _ (state : RoleData) (senior junior : Role) where
  inheritance_answer : (known up there : Bool) (broken : Option SeparationSet) →
      are_roles_of state.edition senior junior ≡ known → Decides up (Reaches state.pairs junior senior) →
      Decides there (Contains state.pairs (pair_of senior junior)) →
      broken ≡ first_broken (add_inheritance state senior junior) →
      IsAnswer inheritance_place (RefusesInheritance state senior junior)
      (option_or (then_some (not known) inheritance.NoSuchRole) (option_or (then_some up inheritance.Cycle)
      (option_or (then_some there inheritance.AlreadyThere) (option_map inheritance.Separation broken))))
  unfolding IsAnswer
  inheritance_answer false up there broken k u t b = record {
    holds = k;
    least = λ other. elim other as (λ other. inheritance_place other < 0 →
        ¬ RefusesInheritance state senior junior other) [
          | inheritance.NoSuchRole ↦ λ before. absurd (omega arith)
          | inheritance.Cycle ↦ λ before. absurd (omega arith)
          | inheritance.AlreadyThere ↦ λ before. absurd (omega arith)
          | inheritance.Separation set ↦ λ before. absurd (omega arith)
        ];
  }
  inheritance_answer true true there broken k u t b = record {
    holds = u.0 refl;
    least = λ other. elim other as (λ other. inheritance_place other < 1 →
        ¬ RefusesInheritance state senior junior other) [
          | inheritance.NoSuchRole ↦ λ before unknown. both_ways _ unknown k
          | inheritance.Cycle ↦ λ before. absurd (omega arith)
          | inheritance.AlreadyThere ↦ λ before. absurd (omega arith)
          | inheritance.Separation set ↦ λ before. absurd (omega arith)
        ];
  }
  inheritance_answer true false true broken k u t b = record {
    holds = t.0 refl;
    least = λ other. elim other as (λ other. inheritance_place other < 2 →
        ¬ RefusesInheritance state senior junior other) [
          | inheritance.NoSuchRole ↦ λ before unknown. both_ways _ unknown k
          | inheritance.Cycle ↦ λ before chain. false≢true (u.1 chain)
          | inheritance.AlreadyThere ↦ λ before. absurd (omega arith)
          | inheritance.Separation set ↦ λ before. absurd (omega arith)
        ];
  }
  inheritance_answer true false false (Some set) k u t b =
      let after : RoleData = add_inheritance state senior junior in
      let first = first_found (is_broken after) set b in
      record {
        holds = (decides_is_broken after set).0 first.passes;
        least = λ other. elim other as (λ other. inheritance_place other < 3 + set_number set →
            ¬ RefusesInheritance state senior junior other) [
              | inheritance.NoSuchRole ↦ λ before unknown. both_ways _ unknown k
              | inheritance.Cycle ↦ λ before chain. false≢true (u.1 chain)
              | inheritance.AlreadyThere ↦ λ before is. false≢true (t.1 is)
              | inheritance.Separation other ↦ λ before broken. both_ways _ (first.before other (omega arith))
                  ((decides_is_broken after other).1 broken)
            ];
      }
  inheritance_answer true false false None k u t b =
      let after : RoleData = add_inheritance state senior junior in
      λ cause. elim cause as (λ cause. ¬ RefusesInheritance state senior junior cause) [
        | inheritance.NoSuchRole ↦ λ unknown. both_ways _ unknown k
        | inheritance.Cycle ↦ λ chain. false≢true (u.1 chain)
        | inheritance.AlreadyThere ↦ λ is. false≢true (t.1 is)
        | inheritance.Separation set ↦ λ broken. both_ways _ (none_found (is_broken after) b set)
            ((decides_is_broken after set).1 broken)
      ]

  inheritance_answered : IsAnswer inheritance_place (RefusesInheritance state senior junior)
      (inheritance_cause state senior junior)
  inheritance_answered = inheritance_answer _ _ _ _ refl (decides_reaches state.pairs junior senior)
      (decides_pair state senior junior) refl

  pub inheritance_refused : (cause : AddInheritanceError) → Some cause ≡ inheritance_cause state senior junior →
      IsFirst inheritance_place (RefusesInheritance state senior junior) cause
  unfolding IsAnswer
  inheritance_refused cause is =
      subst (IsAnswer inheritance_place (RefusesInheritance state senior junior)) (sym is) inheritance_answered

  pub inheritance_unrefused : None ≡ inheritance_cause state senior junior → (cause : AddInheritanceError) →
      ¬ RefusesInheritance state senior junior cause
  unfolding IsAnswer
  inheritance_unrefused is =
      subst (IsAnswer inheritance_place (RefusesInheritance state senior junior)) (sym is) inheritance_answered

-- an inheritance pair is deleted
module _ (state : RoleData) (senior junior : Role) where
  deletion_answer : (known there : Bool) → are_roles_of state.edition senior junior ≡ known →
      Decides there (Contains state.pairs (pair_of senior junior)) →
      IsAnswer deletion_place (RefusesDeletion state senior junior)
      (option_or (then_some (not known) deletion.NoSuchRole) (then_some (not there) deletion.NotThere))
  unfolding IsAnswer
  deletion_answer false there k t = record {
    holds = k;
    least = λ other. elim other as (λ other. deletion_place other < 0 → ¬ RefusesDeletion state senior junior other) [
      | deletion.NoSuchRole ↦ λ before. absurd (omega arith)
      | deletion.NotThere ↦ λ before. absurd (omega arith)
    ];
  }
  deletion_answer true false k t = record {
    holds = λ is. false≢true (t.1 is);
    least = λ other. elim other as (λ other. deletion_place other < 1 → ¬ RefusesDeletion state senior junior other) [
      | deletion.NoSuchRole ↦ λ before unknown. both_ways _ unknown k
      | deletion.NotThere ↦ λ before. absurd (omega arith)
    ];
  }
  deletion_answer true true k t = λ cause. elim cause as (λ cause. ¬ RefusesDeletion state senior junior cause) [
    | deletion.NoSuchRole ↦ λ unknown. both_ways _ unknown k
    | deletion.NotThere ↦ λ none. none (t.0 refl)
  ]

  deletion_answered : IsAnswer deletion_place (RefusesDeletion state senior junior) (deletion_cause state senior junior)
  deletion_answered = deletion_answer _ _ refl (decides_pair state senior junior)

  pub deletion_refused : (cause : DeleteInheritanceError) → Some cause ≡ deletion_cause state senior junior →
      IsFirst deletion_place (RefusesDeletion state senior junior) cause
  unfolding IsAnswer
  deletion_refused cause is =
      subst (IsAnswer deletion_place (RefusesDeletion state senior junior)) (sym is) deletion_answered

  pub deletion_unrefused : None ≡ deletion_cause state senior junior → (cause : DeleteInheritanceError) →
      ¬ RefusesDeletion state senior junior cause
  unfolding IsAnswer
  deletion_unrefused is =
      subst (IsAnswer deletion_place (RefusesDeletion state senior junior)) (sym is) deletion_answered
