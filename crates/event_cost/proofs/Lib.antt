pub mod Clipping
pub mod Telling
pub mod Costing
pub mod Running
pub mod Turning
pub mod Cutting
pub mod Summing
