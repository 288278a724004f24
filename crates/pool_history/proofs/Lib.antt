pub mod StampedParts
pub mod NewestWritten
pub mod Regenerated
