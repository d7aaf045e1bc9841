pub mod Fetching
pub mod Testing
