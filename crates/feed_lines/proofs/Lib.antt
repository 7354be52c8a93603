pub mod Cursor
pub mod Numbers
