pub mod AddingLemmas
pub mod PrefixLemmas
