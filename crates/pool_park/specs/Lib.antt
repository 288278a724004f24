pub mod Counts
pub mod Park
