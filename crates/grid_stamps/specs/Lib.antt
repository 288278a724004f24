pub mod StampConstants
pub mod Grids
pub mod Scans
