pub mod EvidenceLemmas
pub mod TableLemmas
