pub mod Session
pub mod Held
pub mod Statuses
pub mod Calls
pub mod Following
pub mod Nodes
pub mod Subtrees
pub mod Below
