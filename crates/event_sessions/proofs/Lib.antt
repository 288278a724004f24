pub mod Steps
pub mod Opened
pub mod Keeps
pub mod Same
