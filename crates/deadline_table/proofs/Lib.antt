pub mod Bools
pub mod Changes
pub mod Entries
pub mod Queries
