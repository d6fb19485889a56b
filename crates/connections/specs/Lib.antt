pub mod Conversation
pub mod Linked
pub mod Serving
