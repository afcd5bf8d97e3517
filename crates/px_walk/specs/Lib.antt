pub mod ExprView
pub mod Findings
pub mod Forms
pub mod HeadForms
pub mod ModuleView
pub mod Nodes
pub mod Roses
pub mod StmtView
