pub mod Adapters
pub mod Findings
pub mod Lines
pub mod Memory
pub mod Outside
pub mod Troubles
