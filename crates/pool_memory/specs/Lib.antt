pub mod MemoryConstants
pub mod Lent
pub mod Reading
pub mod Writing
pub mod IsPool
pub mod Calls
