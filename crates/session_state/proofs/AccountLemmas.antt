-- What is asked of accounts, against the definitions of roles.
use Rattle.std.proofs.Common.{◌≡◌, ℕ, Bool, true, false, List, [], ◌∷◌, refl, ◌∙◌}
use Rattle.std.specs.Prelude.{Option, Some, None, is_some, option_map, find, cond, ◌||◌}
use Rattle.std.specs.List.{list_any}
use Rattle.rbac.specs.Account.{assigned_roles, same_name}
use Rattle.rbac.specs.Authorization.{authorized_roles, reached}
use Rattle.rbac.specs.RoleData.{RoleData}
use Rattle.session_state.specs.Accounts.{has_account}

-- what is made of a value is there just where the value is
is_some-map : {A B : Type 0} (f : A → B) (found : Option A) → is_some (option_map f found) ≡ is_some found
is_some-map f None = refl
is_some-map f (Some a) = refl

-- something is found just where something passes
is_some-find : {A : Type 0} (p : A → Bool) (xs : List A) → is_some (find p xs) ≡ list_any p xs
is_some-find p [] = refl
is_some-find {A} p (x ∷ xs) = by_test (p x) (is_some-find p xs)
  where
    by_test : (b : Bool) → is_some (find p xs) ≡ list_any p xs → is_some (cond b (Some x) (find p xs)) ≡
        (b || list_any p xs)
    by_test true rest = refl
    by_test false rest = rest

-- who is authorized for some roles, or none, has an account
pub found_account : (roles : RoleData) (name : List ℕ) → is_some (authorized_roles roles name) ≡ has_account roles name
unfolding assigned_roles
found_account roles name =
    is_some-map (reached roles.pairs) (option_map (λ account. account.assigned)
    (find (λ account. same_name account.name name) roles.accounts))
    ∙ is_some-map (λ account. account.assigned) (find (λ account. same_name account.name name) roles.accounts)
    ∙ is_some-find (λ account. same_name account.name name) roles.accounts
