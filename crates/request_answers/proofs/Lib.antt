pub mod AnsweringLemmas
pub mod ConversingLemmas
pub mod ToldLemmas
