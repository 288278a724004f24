pub mod Costs
pub mod Told
pub mod Lines
pub mod Runs
