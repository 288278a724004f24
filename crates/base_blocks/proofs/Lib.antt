pub mod Numbers
pub mod PastBits
pub mod Lists
pub mod Listed
pub mod All
pub mod Blocks
pub mod Scans
