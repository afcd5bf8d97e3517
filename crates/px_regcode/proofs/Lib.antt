pub mod Groups
pub mod ListedLines
pub mod Spacing
pub mod Tables
mod BrokenCode
pub mod Tests
pub mod ListedTables
pub mod ListedRules
pub mod FormedCode
pub mod LoopCode
pub mod Readings
mod LockedLoopCode
pub mod Handing
