-- For private clauses: a new user joins the users of a new session, and when nothing refuses the user.
use Rattle.std.specs.Prelude.{◌≡◌, ◌<◌, ℕ, false, true, None, List, [], ◌∷◌, ◌++◌, length, find, take, slice_index_or}
use Rattle.rbac.specs.Account.{most_users, is_user_name}
use Rattle.rbac.specs.Authorization.{reached}
use Rattle.rbac.specs.RoleData.{RoleData}
use Rattle.session_roles.specs.Separation.{separation_sets, has_both}
use Rattle.session_roles.specs.declared.edition.Edition.{Edition}
use Rattle.session_opening.specs.declared.new_user.NewUser.{NewUser}
use Rattle.session_state.specs.Accounts.{has_account}
use Rattle.session_opening.specs.NewUser.{set_of, repeats, knows_roles, account_of}
use Rattle.session_opening.specs.Opening.{opening_roles}

-- with one user more, to whom the roles are assigned
abbrev pub with_user : RoleData → NewUser → RoleData
with_user state user = record state { accounts = state.accounts ++ account_of user ∷ [] }

-- the name may be a user's and no user has it, there is room for one user more, the edition knows the roles, none
-- stands twice, and they reach no two that a separation set keeps apart
pub record MayJoin (state : RoleData) (user : NewUser) : Type 0 where
  pub named : is_user_name user.name ≡ true
  pub new : has_account state user.name ≡ false
  pub room : length state.accounts < most_users
  pub known : knows_roles state.edition user.roles ≡ true
  pub once : repeats user.roles ≡ false
  pub apart : find (has_both (reached state.pairs (set_of user.roles))) separation_sets ≡ None

-- each of the users may join those before it
abbrev pub JoinInTurn : Edition → List NewUser → Type 0
JoinInTurn edition users =
    (k : ℕ) (other : NewUser) → k < length users → MayJoin (opening_roles edition (take k users))
    (slice_index_or users k other)
