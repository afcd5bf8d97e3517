pub mod Types
pub mod Wrapping
pub mod Division
pub mod Operators
pub mod Conversions
