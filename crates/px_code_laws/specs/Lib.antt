pub mod Settings
pub mod Fine
pub mod FineStatements
pub mod Compiled
pub mod Outcomes
pub mod Whole
