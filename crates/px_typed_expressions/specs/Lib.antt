pub mod Calls
pub mod CallsKept
pub mod Expressions
pub mod ExpressionsKept
pub mod Typers
