pub mod Line
pub mod Parked
