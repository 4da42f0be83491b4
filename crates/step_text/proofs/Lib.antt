pub mod Fitting
pub mod Taken
pub mod Deep
pub mod Replays
pub mod Bytes
pub mod Tags
pub mod Steps
pub mod Loops
pub mod SoundSteps
pub mod Levels
pub use Rattle.page_write.proofs as PageWrite
pub use Rattle.script_read.proofs as ScriptRead
