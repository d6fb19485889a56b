pub mod ContentType
pub mod FileTag
pub mod PageAnswer
pub mod Guards
pub mod Laws
