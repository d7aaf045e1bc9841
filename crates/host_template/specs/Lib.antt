pub mod Standing
pub mod Meaning
pub mod Probes
pub mod Calls
pub mod Laws
