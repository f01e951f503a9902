pub mod Tried
pub mod Reached
