pub mod Nodes
pub mod Sound
pub mod Held
pub mod Change
pub mod Kinds
pub mod Walk
pub mod Made
pub mod Reads
pub mod EditableStates
pub use Rattle.dom_model.specs as DomModel
