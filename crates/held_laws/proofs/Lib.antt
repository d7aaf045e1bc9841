pub mod Entries
pub mod Answered
pub mod Idle
pub mod Courses
pub mod Wanted
pub mod Acts
pub mod Groups
