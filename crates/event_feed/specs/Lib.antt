pub mod FeedConstants
pub mod Feed
pub mod BlockFed
pub mod Places
pub mod Finish
pub mod RestOf
