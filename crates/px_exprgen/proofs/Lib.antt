pub mod Fitting
pub mod Greatest
mod HeadCodes
mod OtherHeads
pub mod Parts
pub mod Shapes
