pub mod Records
pub mod Rings
