pub mod Taken
pub mod VerdictsAgree
