pub mod Targets
pub mod Found
pub mod Findings
