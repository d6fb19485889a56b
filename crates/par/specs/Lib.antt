pub mod Auction
pub mod BestBids
pub mod Bid
pub mod FewTricks
pub mod Laws
