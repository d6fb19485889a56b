pub mod AuctionLemmas
pub mod BidLemmas
pub mod ChoiceLemmas
pub mod DoublingLemmas
pub mod StepLemmas
pub mod TrickLemmas
