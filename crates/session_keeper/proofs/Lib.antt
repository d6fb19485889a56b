pub mod GrowthLemmas
pub mod KeepingLemmas
