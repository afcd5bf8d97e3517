pub mod ModuleLaws
pub mod ModuleSteps
pub mod StatementHeads
pub mod StatementLoops
pub mod StatementSteps
