pub mod Pigeons
pub mod Heights
pub mod Forms
pub mod Comes
pub mod Onward
pub mod Reaching
pub mod Driving
pub mod Beginning
