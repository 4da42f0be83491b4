pub mod Sublists
pub mod Indenting
pub mod Outdenting
pub mod Series
pub mod Commands
pub mod Gaps
