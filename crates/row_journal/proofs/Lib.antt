pub mod FaultLemmas
pub mod KeepLemmas
