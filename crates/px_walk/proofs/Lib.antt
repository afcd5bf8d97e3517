pub mod ExprEquations
pub mod Parts
pub mod Shown
pub mod StmtEquations
pub mod Walks
