pub mod Agreeing
pub mod Demand3Text
pub mod Cuttings
pub mod Bytes
pub mod Witnesses
pub mod Sample
pub mod AllCalls
