pub mod ConversationLemmas
pub mod ServingLemmas
