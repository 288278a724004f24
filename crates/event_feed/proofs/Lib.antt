pub mod Parts
pub mod Moves
pub mod Ends
pub mod Blocks
pub mod Turns
pub mod Cutting
