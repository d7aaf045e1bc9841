pub mod Whole
pub mod Made
pub mod Turns
pub mod Texts
