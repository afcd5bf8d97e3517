pub mod Members
pub mod Acts
