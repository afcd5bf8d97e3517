pub mod References
pub mod Heaps
pub mod Freeing
pub mod Answers
pub mod Stores
