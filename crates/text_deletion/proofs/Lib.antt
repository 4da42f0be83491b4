pub mod Above
pub mod Taken
pub mod Below
