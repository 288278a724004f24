pub mod TextureRuns
pub mod Forgotten
