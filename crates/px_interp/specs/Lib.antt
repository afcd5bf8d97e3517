pub mod Slots
pub mod Interps
pub mod Texts
pub mod Rows
