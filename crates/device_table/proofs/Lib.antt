pub mod Counts
pub mod Tags
pub mod Places
pub mod Entries
pub mod Depths
pub mod Taking
