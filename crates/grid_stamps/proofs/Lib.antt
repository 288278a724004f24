pub mod Tilings
pub mod RowByRow
pub mod Stamps
pub mod Boxes
pub mod Legal
pub mod Seen
pub mod Rows
pub mod Pages
