pub mod Agreements
pub mod ErasedCalls
pub mod ErasedExpressions
pub mod ErasedModules
pub mod ErasedNodes
pub mod ErasedOperators
pub mod ErasedStatements
pub mod OutcomeParts
