pub mod RowLemmas
pub mod ParseLemmas
