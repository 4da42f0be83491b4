pub mod Ranges
pub mod Converting
pub mod Collecting
pub mod Toggle
pub mod Below
