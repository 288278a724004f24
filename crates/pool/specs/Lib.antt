pub mod Queries
pub mod DirtyTiles
