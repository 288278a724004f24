pub mod Answers
pub mod Printed
pub mod Ended
