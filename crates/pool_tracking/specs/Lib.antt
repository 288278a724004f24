pub mod Refusal
pub mod Cases
pub mod Begun
pub mod Holdings
pub mod Start
