pub mod Approach
pub mod Entries
pub mod Delete
