pub mod Making
pub mod Rounds
pub mod Bound
