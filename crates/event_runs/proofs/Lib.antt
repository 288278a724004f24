pub mod Splits
pub mod Rooms
pub mod Runs
pub mod LongLines
pub mod Cuts
pub mod Texts
