pub mod FollowingLemmas
pub mod HallLemmas
pub mod TurnLemmas
