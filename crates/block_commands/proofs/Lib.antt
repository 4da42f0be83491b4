mod Above
pub mod Counting
mod Looping
mod ValueNames
mod Matching
mod Handing
pub mod Below
