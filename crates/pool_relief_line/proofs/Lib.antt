pub mod Picked
pub mod Sorted
pub mod ByLine
pub mod Parked
