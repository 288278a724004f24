pub mod Counts
pub mod Places
pub mod Starts
pub mod Tilings
