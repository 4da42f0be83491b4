pub mod Writable
pub mod Tidy
