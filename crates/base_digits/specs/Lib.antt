pub mod Aligned
pub mod Characters
pub mod Digits
pub mod Packed
pub mod Put
