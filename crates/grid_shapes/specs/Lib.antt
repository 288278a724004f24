pub mod ShapeConstants
pub mod Outcomes
pub mod Formats
pub mod Shapes
