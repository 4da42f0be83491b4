pub mod Names
pub mod Known
pub mod Tame
pub mod Laws
pub mod Inline
pub mod Blocks
pub mod Lists
pub mod Insertion
