pub mod Folds
pub mod Listing
pub mod Piling
pub mod Weighing
