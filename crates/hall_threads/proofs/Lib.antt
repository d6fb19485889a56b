pub mod AskersLemmas
pub mod HallLemmas
