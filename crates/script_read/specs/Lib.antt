pub mod Acts
pub mod Reading
pub mod Answers
pub mod Printing
