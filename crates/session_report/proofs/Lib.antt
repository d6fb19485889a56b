pub mod ListLemmas
pub mod NumberLemmas
