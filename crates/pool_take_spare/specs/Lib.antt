pub mod Answer
pub mod TakeNewest
pub mod TakeRefusal
pub mod LookUp
