pub mod Textures
