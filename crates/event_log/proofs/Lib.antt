pub mod MendLemmas
pub mod PlainLemmas
