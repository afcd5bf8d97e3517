pub mod BareExpressions
pub mod BareModules
pub mod BareStatements
pub mod Erased
pub mod PlainForms
