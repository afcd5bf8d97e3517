pub mod AdapterLemmas
pub mod Facts
pub mod FirstFindings
pub mod MemoryLemmas
