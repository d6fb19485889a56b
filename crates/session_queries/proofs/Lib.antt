pub mod FactLemmas
pub mod ShownLemmas
pub mod ResultLemmas
pub mod NumberLemmas
pub mod ParLemmas
pub mod LiveLemmas
