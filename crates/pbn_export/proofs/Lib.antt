pub mod SafeLemmas
pub mod SpellLemmas
pub mod MarkLemmas
pub mod GameLemmas
pub mod DealLemmas
pub mod BoardLemmas
pub mod ReadLemmas
