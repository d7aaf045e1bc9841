pub mod HostAgrees
pub mod Picks
pub mod Owners
pub mod Recovers
