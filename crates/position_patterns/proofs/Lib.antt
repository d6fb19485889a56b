pub mod DigitLemmas
pub mod KeptLemmas
pub mod RaisedLemmas
pub mod RankLemmas
pub mod RemainderLemmas
pub mod SetLemmas
pub mod TopsLemmas
pub mod UpperLemmas
