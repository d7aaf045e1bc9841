pub mod Rest
pub mod Runs
pub mod Phases
pub mod Played
