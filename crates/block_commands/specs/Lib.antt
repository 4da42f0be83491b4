pub mod Gathered
pub mod Series
pub mod FormatBlock
pub mod Justify
pub mod Handed
pub mod Below
