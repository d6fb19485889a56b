pub mod NumberBitsLemmas
pub mod NumbersLemmas
