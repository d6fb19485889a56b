pub mod Doubling
pub mod Law77
pub mod Law78A
pub mod Outcome
pub mod Ranking
