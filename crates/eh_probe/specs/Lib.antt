pub mod Tests
pub mod Standings
