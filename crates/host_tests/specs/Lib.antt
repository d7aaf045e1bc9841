pub mod Attempts
pub mod Desks
pub mod Entering
pub mod Places
pub mod Turned
