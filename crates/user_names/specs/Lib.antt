pub mod MemberNumber
pub mod Name
pub mod Places
pub mod ShownName
pub mod ShownText
