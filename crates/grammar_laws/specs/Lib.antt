pub mod Proper
pub mod Runs
pub mod Laws
