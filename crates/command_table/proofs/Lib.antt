pub mod Heaped
pub mod Places
pub mod Entries
pub mod Waiting
pub mod Queries
