pub mod AxisConstants
pub mod Axes
pub mod EdgeTables
