pub mod PrintSheet
pub mod Records
pub mod Sheet
pub mod SheetClaims
