pub mod Planned
pub mod Passes
pub mod Finding
pub mod Planning
pub mod Refusals
