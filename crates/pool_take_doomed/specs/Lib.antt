pub mod Given
pub mod Views
pub mod NextBatch
pub mod Answer
pub mod TakeDoomed
pub mod DrainVersions
