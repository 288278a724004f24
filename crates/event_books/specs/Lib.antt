pub mod EventLists
pub mod Cuttings
pub mod Bytes
pub mod Witnesses
pub mod Sample
pub mod AllCalls
