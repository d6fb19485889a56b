pub mod DepthLemmas
pub mod TellingLemmas
pub mod WrittenLemmas
