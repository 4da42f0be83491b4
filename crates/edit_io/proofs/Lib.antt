pub mod Told
pub mod Faults
pub mod Handed
mod Held
mod Passed
