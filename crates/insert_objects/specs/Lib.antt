pub mod Putting
pub mod LineBreak
pub mod Rule
pub mod Image
