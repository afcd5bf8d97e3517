pub mod OneWorld
mod Examples
