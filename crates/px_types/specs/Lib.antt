pub mod ModuleKept
pub mod Statements
pub mod StatementsKept
pub mod TypedModule
pub mod Typers
pub mod Types
