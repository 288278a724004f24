pub mod Outcomes
pub mod Formats
pub mod Shapes
pub mod ShapeBytes
pub mod Answers
