pub mod Agreement
pub mod Answers
pub mod History
pub mod Listing
pub mod Reply
pub mod View
pub mod World
