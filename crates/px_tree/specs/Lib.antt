pub mod Names
pub mod TypedTypes
