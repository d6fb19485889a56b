pub mod OneJournal
pub mod Publications
pub mod Restart
pub mod Runs
