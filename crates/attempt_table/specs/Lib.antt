pub mod Rows
pub mod Claims
pub mod AttemptsAgree
