pub mod Written
pub mod Thinned
pub mod Chosen
pub mod Progress
pub mod Noted
