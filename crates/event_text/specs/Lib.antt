pub mod Eight
pub mod Fields
pub mod Numbers
pub mod Searches
