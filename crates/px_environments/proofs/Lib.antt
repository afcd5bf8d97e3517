pub mod FirstForms
pub mod Gathered
pub mod Others
pub mod Parts
pub mod SameEnvironment
pub mod TableSteps
