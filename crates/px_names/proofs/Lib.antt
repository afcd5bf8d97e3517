pub mod Cuts
pub mod Heads
pub mod MapSteps
pub mod NameLaws
pub mod NameSteps
pub mod Options
pub mod PartLoops
pub mod Twice
