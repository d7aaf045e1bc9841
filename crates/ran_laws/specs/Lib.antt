pub mod Counted
pub mod Outcome
