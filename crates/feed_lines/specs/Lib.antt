pub mod Lexing
pub mod Cursor
