pub mod PublishingLemmas
pub mod ReadingLemmas
