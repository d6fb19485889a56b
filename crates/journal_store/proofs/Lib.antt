pub mod TextLemmas
pub mod KeptLemmas
pub mod SelectLemmas
pub mod FailLemmas
pub mod CreateLemmas
pub mod RestartLemmas
pub mod ReadingLemmas
