pub mod SheetText
pub mod Printed
