pub mod Starts
pub mod Stored
