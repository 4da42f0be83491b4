pub mod Rows
mod Upward
pub mod Chars
pub mod Below
