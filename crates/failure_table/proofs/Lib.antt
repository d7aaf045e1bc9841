pub mod Counts
pub mod Lists
pub mod Entries
pub mod Agree
pub mod Queries
