pub mod RingTests
pub mod NumberTests
pub mod Parts
