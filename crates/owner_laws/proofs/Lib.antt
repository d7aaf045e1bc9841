pub mod Turned
pub mod Attempts
pub mod Shows
pub mod Said
pub mod Causes
pub mod Held
