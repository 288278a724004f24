pub mod Lists
pub mod All
pub mod Blocks
