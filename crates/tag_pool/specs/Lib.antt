pub mod Depths
pub mod Tags
pub mod Words
pub mod Counts
pub mod Pool
