pub mod Hosts
pub mod Commands
