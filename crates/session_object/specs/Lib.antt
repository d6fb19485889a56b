pub mod AskedMovement
pub mod Session
pub mod Reading
pub mod FaultText
pub mod NoticeMembers
