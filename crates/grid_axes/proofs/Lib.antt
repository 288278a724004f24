pub mod Axes
pub mod EdgeTables
pub mod Spans
