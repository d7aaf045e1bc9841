pub mod Spelled
pub mod Lists
pub mod Told
pub mod Needed
