pub mod Pieces
pub mod Hex
pub mod Words
pub mod Keywords
pub mod Faults
