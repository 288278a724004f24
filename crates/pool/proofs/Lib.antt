pub mod NoPool
pub mod Asking
pub mod DirtyTiles
