pub mod Fits
pub mod FitStatements
pub mod FitModules
pub mod ModuleImage
pub mod ModuleRuns
