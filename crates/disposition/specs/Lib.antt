pub mod Disp
pub mod Ladder
