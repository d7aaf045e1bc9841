pub mod View
pub mod Steps
pub mod Choices
pub mod Recovering
pub mod Failures
