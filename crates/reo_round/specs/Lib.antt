pub mod FeedLaws
pub mod Feeds
pub mod Filling
pub mod MadeRound
