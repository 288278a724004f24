pub mod Parked
pub mod ParkCases
