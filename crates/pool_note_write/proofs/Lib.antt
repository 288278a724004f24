pub mod AtPlace
pub mod Left
pub mod Dropped
pub mod WriteCases
pub mod RegenerationCases
pub mod QueryCases
