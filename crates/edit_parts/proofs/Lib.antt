pub mod Settings
pub mod Below
pub mod Bearing
pub mod Standing
pub mod Points
pub mod Moves
pub mod Ranges
pub mod Splices
pub use Rattle.edit_model.proofs as EditModel
