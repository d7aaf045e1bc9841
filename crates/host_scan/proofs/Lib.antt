pub mod Places
pub mod Order
pub mod Served
pub mod Counted
pub mod Asked
pub mod Listed
pub mod Starts
pub mod Scanned
