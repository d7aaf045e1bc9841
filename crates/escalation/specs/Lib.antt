pub mod Rungs
pub mod Climbing
pub mod Acts
