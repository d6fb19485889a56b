pub mod CardLemmas
pub mod EscapingLemmas
pub mod GuestsLemmas
pub mod OpeningLemmas
pub mod PlannedLemmas
pub mod QuotingLemmas
pub mod WritableLemmas
