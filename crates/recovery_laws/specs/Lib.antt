pub mod Failed
pub mod Still
