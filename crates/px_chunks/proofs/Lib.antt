pub mod Tables
pub mod Guided
pub mod TableLaws
pub mod Cases
