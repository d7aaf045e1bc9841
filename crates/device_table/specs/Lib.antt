pub mod Rows
pub mod DevicesAgree
