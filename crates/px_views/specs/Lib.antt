pub mod Strides
pub mod Triples
pub mod Answers
pub mod Walks
pub mod Cells
pub mod Laws
