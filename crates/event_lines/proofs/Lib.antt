pub mod Choices
pub mod Reading
pub mod Limits
pub mod Grammar
pub mod Starts
