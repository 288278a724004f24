pub mod LookAt
pub mod Pass
pub mod NothingAged
