pub mod Rects
pub mod Blocks
pub mod CopyBytes
pub mod Claims
pub mod Outcomes
