pub mod Start
pub mod Entries
pub mod Containers
pub mod Halves
pub mod Paragraph
pub mod Typing
