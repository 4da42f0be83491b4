pub mod State
pub mod Overrides
pub mod Kept
pub mod Confined
pub mod Edit
pub mod Tail
pub mod Action
pub mod Possible
pub mod Run
pub mod Gives
pub mod Moves
pub mod Compositions
pub mod History
pub mod Codes
pub mod Valid
pub mod Outside
pub mod Laws
pub mod Heights
pub use Rattle.point_order.specs.DomModel
pub use Rattle.html_names.specs as HtmlNames
pub use Rattle.point_order.specs.LiveRange
pub use Rattle.point_order.specs.NodeArena
pub use Rattle.point_order.specs as PointOrder
