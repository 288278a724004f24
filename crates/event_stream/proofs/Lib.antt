pub mod Reasons
pub mod Sofar
pub mod Turns
pub mod Loop
pub mod Lengths
