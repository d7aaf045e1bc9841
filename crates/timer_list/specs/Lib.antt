pub mod Timers
pub mod Orders
