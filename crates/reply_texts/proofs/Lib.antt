pub mod BoardLemmas
pub mod FilterLemmas
pub mod FloatLemmas
pub mod RangeLemmas
pub mod ReplyLemmas
pub mod SlotLemmas
pub mod StatusLemmas
