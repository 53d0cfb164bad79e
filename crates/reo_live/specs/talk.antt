pub mod Outcomes
pub mod Talks
pub mod Offers
pub mod Rounds
pub mod Replies
pub mod Feeds
pub mod Fed
