pub mod ContainsLemmas
pub mod OneRowLemmas
pub mod PairTests
pub mod PlaysLemmas
pub mod RoundLemmas
pub mod RowLemmas
