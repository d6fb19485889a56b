pub mod JoiningLemmas
pub mod OpeningLawLemmas
pub mod OpeningLemmas
pub mod OpeningPlacedLemmas
pub mod OpeningRefusalLemmas
pub mod OpeningSeatLemmas
pub mod OwnNumberLemmas
