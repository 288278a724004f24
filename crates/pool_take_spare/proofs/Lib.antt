pub mod Said
pub mod LookedUp
pub mod TakenNewest
