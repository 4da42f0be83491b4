pub mod Rebuild
pub mod ChangeLemmas
pub mod Merge
pub mod SoundLink
pub mod LinkOk
pub mod Walk
pub mod UnlinkOk
pub mod MakeOk
mod SiblingOrder
pub mod SlottedOk
pub mod FindOk
pub mod HostsOk
pub mod CountsOk
pub mod DropOk
pub mod ReviseOk
pub mod RewindOk
pub mod SkipOk
pub mod DropTreeOk
pub mod BeforeOk
pub mod GiveUp
pub mod MadeOk
pub use Rattle.dom_model.proofs as DomModel
