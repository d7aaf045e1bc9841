pub mod Rows
pub mod CommandsAgree
pub mod Sets
