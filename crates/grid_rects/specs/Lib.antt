pub mod Rects
pub mod Copies
pub mod RoundedCopies
pub mod CopyClaims
