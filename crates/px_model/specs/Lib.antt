pub mod Partition
pub mod Chunks
pub mod Sequences
pub mod Views
