pub mod Cuts
pub mod Letters
pub mod HexLoop
pub mod Packed
