pub mod Wholes
pub mod AddedForm
pub mod Added
pub mod Factors
pub mod Placed
pub mod Bare
pub mod Both
pub mod Bounded
