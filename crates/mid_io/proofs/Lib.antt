pub mod Grown
pub mod Fronts
