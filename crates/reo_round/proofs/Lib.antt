pub mod FeedLemmas
pub mod Fed
pub mod Putting
pub mod Filled
pub mod PortMoves
