pub mod LawLemmas
pub mod LimitLemmas
