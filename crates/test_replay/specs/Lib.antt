pub mod ReplayConstants
