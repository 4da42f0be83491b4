pub mod Faults
pub mod Handed
pub mod Told
pub mod Real
