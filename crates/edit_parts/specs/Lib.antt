pub mod Following
pub mod Walk
pub use Rattle.edit_model.specs as EditModel
pub use Rattle.edit_model.specs.PointOrder
