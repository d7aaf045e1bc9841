pub mod Numbers
pub mod Leaves
pub mod Turns
pub mod Entering
pub mod Owners
