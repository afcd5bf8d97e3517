pub mod Layouts
pub mod StatementCode
pub mod FunctionCode
pub mod Sizes
