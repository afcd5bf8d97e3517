pub mod Slots
pub mod Steps
pub mod Machine
pub mod Follows
pub mod Means
pub mod OneWorld
pub mod Running
