pub mod BeginningLemmas
pub mod EntryLemmas
pub mod JoinLemmas
pub mod PublicationLemmas
pub mod ReplyLemmas
pub mod RunLemmas
pub mod StartLemmas
