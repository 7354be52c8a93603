pub mod Spelling
pub mod Readings
