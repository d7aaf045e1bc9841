pub mod Steps
pub mod Phases
pub mod Rounds
pub mod Lines
pub mod Scripts
