pub mod Pushed
pub mod Columns
pub mod Batches
pub mod Taken
pub mod Cleared
pub mod Drained
