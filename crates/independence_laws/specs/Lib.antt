pub mod Unmarked
pub mod Ignoring
pub mod Laws
pub mod Editors
