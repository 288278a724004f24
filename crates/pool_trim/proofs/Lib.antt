pub mod Ages
pub mod Puts
pub mod Looks
pub mod Steps
pub mod Sofar
pub mod Trimmed
pub mod YoungTextures
pub mod TrimCalls
