pub mod Atoms
pub mod BuiltForms
pub mod Environments
pub mod Kept
pub mod Signatures
pub mod WrittenTypes
