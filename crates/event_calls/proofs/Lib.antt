pub mod Alone
pub mod Buffers
