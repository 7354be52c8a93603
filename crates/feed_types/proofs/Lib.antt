pub mod Padding
pub mod Equal
