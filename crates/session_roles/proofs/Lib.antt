pub mod RoleNumbersLemmas
pub mod RoleLemmas
pub mod SeparationLemmas
