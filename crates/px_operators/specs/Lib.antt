pub mod Conversions
pub mod Kept
pub mod Laws
pub mod Operators
pub mod OperatorsKept
pub mod Outcomes
