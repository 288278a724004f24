pub mod Aligned
pub mod FourDigits
pub mod Lanes
pub mod Printing
pub mod Puts
pub mod ShortNumbers
