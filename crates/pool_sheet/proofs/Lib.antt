pub mod Claims
pub mod Columns
pub mod Determined
pub mod OfRecords
pub mod Pages
pub mod PoolFits
pub mod Told
pub mod Widths
