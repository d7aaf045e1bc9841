pub mod LowerRun
pub mod Stands
pub mod Adapter
pub mod Means
pub mod Laws
