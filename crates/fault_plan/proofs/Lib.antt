pub mod Numbers
pub mod Between
pub mod InBlocks
