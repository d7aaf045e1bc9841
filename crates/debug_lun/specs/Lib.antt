pub mod Units
pub mod Commands
pub mod Pages
pub mod Serving
