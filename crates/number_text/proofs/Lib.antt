pub mod Splits
pub mod Numerals
pub mod Shapes
pub mod Held
pub mod Unique
pub mod Printed
pub mod Short
