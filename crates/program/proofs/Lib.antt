pub mod FirstLineLemmas
pub mod PartLemmas
pub mod ScriptLemmas
pub mod ResponseLemmas
pub mod TextLemmas
pub mod ToldLemmas
pub mod MemoryLemmas
