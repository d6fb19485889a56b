pub mod Units
pub mod Order
pub mod Traveller
pub mod Ranking
