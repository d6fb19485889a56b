pub mod Token
pub mod SignInName
