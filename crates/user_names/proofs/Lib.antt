pub mod NumberLemmas
pub mod PlacesLemmas
pub mod ShownLemmas
