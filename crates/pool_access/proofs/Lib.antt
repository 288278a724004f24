pub mod Totals
pub mod Fields
pub mod Levels
pub mod Moves
pub mod Ids
pub mod Axes
pub mod SliceTilingLaws
