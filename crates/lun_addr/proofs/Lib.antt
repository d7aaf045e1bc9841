pub mod Entries
pub mod Entered
pub mod Back
