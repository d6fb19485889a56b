pub mod Answering
pub mod Conversing
pub mod Response
