-- What the fields of `Roles` keep.
use Rattle.std.specs.Prelude.{◌≤◌, vec_capacity}
use Rattle.rbac.specs.declared.roles.Roles.TheInside.{Inside}
use Rattle.rbac.specs.Hierarchy.{IsClosure}
use Rattle.rbac.specs.Account.{most_users}
use Rattle.rbac.specs.Inheritance.{most_pairs}
use Rattle.rbac.specs.RoleData.{RoleData}
use Rattle.rbac.specs.Authorization.{IsValid}

-- the accounts, the pairs and the edition
abbrev pub data_of : Inside → RoleData
data_of roles = record {
  accounts = roles.accounts.items;
  pairs = roles.pairs.items;
  edition = roles.edition;
}

-- the data is valid, the table is that of the pairs, and there is room for all users and for every pair of two roles
pub record AreKeptRoles (roles : Inside) : Type 0 where
  pub valid : IsValid (data_of roles)
  pub closure : IsClosure roles.pairs.items roles.hierarchy.reached
  pub users : most_users ≤ vec_capacity roles.accounts
  pub room : most_pairs ≤ vec_capacity roles.pairs
