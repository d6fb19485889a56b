pub mod FieldLemmas
pub mod PeopleLemmas
pub mod RolesLemmas
