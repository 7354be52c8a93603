pub mod RowProducts
pub mod Given
pub mod RootSigns
