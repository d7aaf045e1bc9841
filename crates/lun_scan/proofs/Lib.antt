pub mod Listed
pub mod Heard
