pub mod UndertrickLemmas
pub mod MadeLemmas
pub mod RankingLemmas
pub mod MatchpointLemmas
pub mod ScoreLemmas
pub mod StakeLemmas
pub mod BoardLemmas
pub mod OutcomeLemmas
