pub mod PopCases
pub mod Tracked
pub mod RetireRefusals
pub mod Noted
pub mod RetireCases
