pub mod History
pub mod Dropped
pub mod Counts
