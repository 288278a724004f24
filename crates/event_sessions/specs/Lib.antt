pub mod Sessions
pub mod Noted
pub mod Parts
pub mod LentStores
