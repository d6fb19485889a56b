pub mod EachLemmas
pub mod EarningLemmas
pub mod OrderLemmas
pub mod PairLemmas
pub mod RankingLemmas
pub mod TravellerLemmas
pub mod UnitsLemmas
