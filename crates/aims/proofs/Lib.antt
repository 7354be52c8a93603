pub mod ShiftedForm
pub mod Aiming
pub mod Shifted
pub mod Holding
