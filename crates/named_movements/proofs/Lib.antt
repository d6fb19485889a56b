pub mod FullLemmas
pub mod GoneThroughLemmas
pub mod HowellLemmas
pub mod PairLemmas
pub mod RefusedLemmas
pub mod RowsLemmas
pub mod SizeLemmas
pub mod StandLemmas
