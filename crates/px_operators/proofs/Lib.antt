pub mod AllParts
pub mod ChainLaws
pub mod CommonTypes
pub mod ConversionLaws
pub mod EachFitted
pub mod Joins
pub mod OperandLoops
