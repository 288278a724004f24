mod Keeps
mod Opened
mod Parts
